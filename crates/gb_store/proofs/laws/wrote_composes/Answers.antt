use Rattle.gb_store.proofs.MomentLemmas.{Wrote-then}
use Rattle.gb_store.proofs.laws.wrote_composes.Goals as goal

pub returns : goal.returns
returns g c = Wrote-then g.R.Rule.allows
