use Rattle.std.proofs.Common.{refl, inr}
use Rattle.gb_store.proofs.MomentLemmas.{WroteBy-one}
use Rattle.gb_store.proofs.call_laws.wrote_one_by.Goals as goal

pub returns : goal.returns
returns g c = λ change old may. WroteBy-one g.R.CallRule.allows change old _ may (inr refl)
