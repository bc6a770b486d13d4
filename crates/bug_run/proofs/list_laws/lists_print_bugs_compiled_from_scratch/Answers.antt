use Rattle.bug_run.proofs.ListLemmas.{list_prints}
use Rattle.bug_run.proofs.list_laws.lists_print_bugs_compiled_from_scratch.Goals as goal

pub returns : goal.returns
returns c = λ call old new before after request tells prints asks sound is. list_prints call old new before after request tells asks sound prints is
