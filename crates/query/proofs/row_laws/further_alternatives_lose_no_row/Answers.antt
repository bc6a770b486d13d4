use Rattle.query.proofs.MoreLemmas.{further_widens}
use Rattle.query.proofs.row_laws.further_alternatives_lose_no_row.Goals as goal

pub returns : goal.returns
returns c = further_widens
