use Rattle.std.proofs.Common.{[]}
use Rattle.gb_text.specs.declared.id.Id.{Id}
use Rattle.dag_entity.proofs.JudgeSets.{IsSetOf-more, IsSetOf-none}
use Rattle.dag_entity.proofs.judge.set_of.Goals as goal

none : Id
none = record { bytes = [] }

pub loop-id-init : goal.loop-id-init
loop-id-init c = IsSetOf-none _ c.new-known.ensures.empty

pub loop-id-preserved : goal.loop-id-preserved
unfolding none
loop-id-preserved c = IsSetOf-more c.loop-id.known c.insert.new.self c.args.ids.now c.loop-id.id-index none c.loop-id-test.true c.loop-id.invariant c.in_ok-insert.ensures.updates.0
