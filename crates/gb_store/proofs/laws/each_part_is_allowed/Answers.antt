use Rattle.gb_store.specs.Moments.{at_moment}
use Rattle.gb_store.proofs.MomentLemmas.{WroteBy-before, WroteBy-after, at_moment-from_later}
use Rattle.gb_store.proofs.laws.each_part_is_allowed.Goals as goal

pub returns-clause-before : goal.returns-clause-before
returns-clause-before g c = WroteBy-before (at_moment g.R.Rule.allows)

pub returns-clause-after : goal.returns-clause-after
returns-clause-after g c = λ old new moment. WroteBy-after (at_moment g.R.Rule.allows) old new moment (at_moment-from_later g.R.Rule.allows)
