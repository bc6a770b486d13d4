use Rattle.std.proofs.Common.{refl, inr}
use Rattle.gb_store.proofs.MomentLemmas.{Wrote-one}
use Rattle.gb_store.proofs.laws.wrote_one.Goals as goal

pub returns : goal.returns
returns g c = λ change old may. Wrote-one g.R.Rule.allows change old _ may (inr refl)
