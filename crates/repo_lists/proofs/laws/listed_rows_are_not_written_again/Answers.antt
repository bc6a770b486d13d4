use Rattle.repo_lists.proofs.ListLemmas.{rows_are_stored}
use Rattle.repo_lists.proofs.laws.listed_rows_are_not_written_again.Goals as goal

pub returns : goal.returns
returns c = rows_are_stored
