use Rattle.gb_store.proofs.MomentLemmas.{WroteBy-then}
use Rattle.gb_store.proofs.call_laws.wrote_by_composes.Goals as goal

pub returns : goal.returns
returns g c = λ from old mid new. WroteBy-then g.R.CallRule.allows old mid new from
