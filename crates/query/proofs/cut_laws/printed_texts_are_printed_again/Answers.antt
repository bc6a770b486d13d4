use Rattle.query.proofs.ReadLemmas.{printed_again}
use Rattle.query.proofs.cut_laws.printed_texts_are_printed_again.Goals as goal

pub returns : goal.returns
returns c = printed_again
