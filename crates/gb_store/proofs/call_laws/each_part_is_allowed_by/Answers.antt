use Rattle.gb_store.proofs.MomentLemmas.{WroteBy-before, WroteBy-after}
use Rattle.gb_store.proofs.call_laws.each_part_is_allowed_by.Goals as goal

pub returns-clause-before : goal.returns-clause-before
returns-clause-before g c = WroteBy-before g.R.CallRule.allows

pub returns-clause-after : goal.returns-clause-after
returns-clause-after g c = λ from old new moment. WroteBy-after g.R.CallRule.allows old new moment from
