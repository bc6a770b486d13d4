use Rattle.row_text.specs.RowLaws.{names_once}
use Rattle.row_text.proofs.laws.rows_have_each_member_once.Goals as goal

pub returns : goal.returns
returns c = names_once
