use Rattle.query.proofs.MoreLemmas.{demands_narrow}
use Rattle.query.proofs.row_laws.further_demands_add_no_row.Goals as goal

pub returns : goal.returns
returns c = demands_narrow
