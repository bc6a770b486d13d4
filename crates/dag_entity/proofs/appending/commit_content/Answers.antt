use Rattle.std.proofs.Common.{rules}
use Rattle.object_batch.specs.Commits.{written_commit}
use Rattle.dag_entity.proofs.AppendLemmas.{commit_text_is}
use Rattle.dag_entity.proofs.appending.commit_content.Goals as goal

pub returns-clause-commit : goal.returns-clause-commit
returns-clause-commit c = search rules

pub returns-clause-text : goal.returns-clause-text
returns-clause-text c = commit_text_is (written_commit c.args.tree c.args.parents.now c.args.now) c.write.result (returns-clause-commit c)
