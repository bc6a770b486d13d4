use Rattle.repo_rows.proofs.LawLemmas.{row_says}
use Rattle.repo_rows.proofs.laws.rows_say_what_operations_say.Goals as goal

pub returns : goal.returns
returns c = row_says
