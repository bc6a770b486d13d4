use Rattle.repo_rows.proofs.LawLemmas.{rows_not_read}
use Rattle.repo_rows.proofs.laws.current_rows_read_nothing.Goals as goal

pub returns : goal.returns
returns c = rows_not_read
