use Rattle.gb_store.proofs.MomentLemmas.{AllMoments-from_Wrote}
use Rattle.gb_store.proofs.laws.kept_at_each_moment.Goals as goal

pub returns : goal.returns
returns g c = AllMoments-from_Wrote g.R.Rule.allows g.P.Property.holds
