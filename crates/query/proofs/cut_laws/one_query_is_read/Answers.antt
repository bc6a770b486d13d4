use Rattle.query.proofs.ReadLemmas.{one_read}
use Rattle.query.proofs.cut_laws.one_query_is_read.Goals as goal

pub returns : goal.returns
returns c = one_read
