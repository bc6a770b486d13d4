use Rattle.std.proofs.Common.{◌+◌}
use Rattle.std.proofs.lemmas.List.Elements.{All-drop}
use Rattle.world_events.specs.Within.{IsWithin}
use Rattle.world_events.proofs.WithinLemmas.{within_from}
use Rattle.world_events.proofs.within.are_within.Goals as goal

pub loop-event-preserved : goal.loop-event-preserved
loop-event-preserved c = (
  (λ rest. c.loop-event.invariant.0 (within_from c.args.folders c.args.events.now c.loop-event.event-index _ c.loop-event-test.true (c.is_within.ensures.0 c.if-not-is_within.false) rest)),
  (λ all. All-drop (IsWithin c.args.folders) (c.loop-event.event-index + 1) c.args.events.now all),
)
