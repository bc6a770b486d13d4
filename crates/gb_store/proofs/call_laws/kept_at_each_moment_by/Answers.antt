use Rattle.gb_store.proofs.MomentLemmas.{AllMoments-from_WroteBy}
use Rattle.gb_store.proofs.call_laws.kept_at_each_moment_by.Goals as goal

pub returns : goal.returns
returns g c = AllMoments-from_WroteBy g.R.CallRule.allows g.P.Property.holds
