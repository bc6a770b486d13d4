use Rattle.std.proofs.Common.{◌↔◌, All, drop}
use Rattle.world_events.specs.Within.{IsWithin}
use Rattle.world_events.proofs.within.are_within.Given as goal

abbrev pub invariant-loop-event : goal.invariant-loop-event
invariant-loop-event l = All (IsWithin l.folders) (drop l.event-index l.events) ↔ All (IsWithin l.folders) l.events
