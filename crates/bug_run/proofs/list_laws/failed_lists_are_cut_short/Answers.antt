use Rattle.bug_run.proofs.ListLemmas.{list_cut}
use Rattle.bug_run.proofs.list_laws.failed_lists_are_cut_short.Goals as goal

pub returns : goal.returns
returns c = list_cut
