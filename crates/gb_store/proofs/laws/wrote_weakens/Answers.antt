use Rattle.gb_store.proofs.MomentLemmas.{Wrote-wider}
use Rattle.gb_store.proofs.laws.wrote_weakens.Goals as goal

pub returns : goal.returns
returns g c = λ wider old new. Wrote-wider g.R.Rule.allows g.W.Rule.allows old new wider
