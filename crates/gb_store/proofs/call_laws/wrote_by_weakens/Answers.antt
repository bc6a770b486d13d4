use Rattle.gb_store.proofs.MomentLemmas.{WroteBy-wider}
use Rattle.gb_store.proofs.call_laws.wrote_by_weakens.Goals as goal

pub returns : goal.returns
returns g c = WroteBy-wider g.R.CallRule.allows g.W.CallRule.allows
