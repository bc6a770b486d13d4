use Rattle.gb_store.proofs.MomentLemmas.{WroteBy-some}
use Rattle.gb_store.proofs.call_laws.first_writes_are_allowed.Goals as goal

pub returns : goal.returns
returns g c = WroteBy-some g.R.CallRule.allows
