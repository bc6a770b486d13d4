use Rattle.repo_steps.proofs.Names.{comment_growth}
use Rattle.repo_steps.proofs.GrownLemmas.{begins_saying, ends, found_again}
use Rattle.repo_steps.proofs.laws.written_bugs_are_read_so.Goals as goal

pub returns-clause-grown : goal.returns-clause-grown
returns-clause-grown c = found_again

pub returns-clause-edited : goal.returns-clause-edited
returns-clause-edited c = λ env message word comment. ends env (comment_growth env message word comment)

pub returns-clause-begun : goal.returns-clause-begun
returns-clause-begun c = begins_saying
