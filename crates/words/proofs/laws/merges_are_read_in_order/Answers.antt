use Rattle.words.proofs.MergeLemmas.{bad_folder, merge_asked, unnamed_remote}
use Rattle.words.proofs.laws.merges_are_read_in_order.Goals as goal

pub returns-clause-folder : goal.returns-clause-folder
returns-clause-folder c = bad_folder

pub returns-clause-remote : goal.returns-clause-remote
returns-clause-remote c = unnamed_remote

pub returns-clause-merge : goal.returns-clause-merge
returns-clause-merge c = merge_asked
