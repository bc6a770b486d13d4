use Rattle.std.proofs.Common.{◌≡◌, map, All}
use Rattle.std.specs.List.{range_with_len}
use Rattle.world_events.specs.Events.{event_of, state_before}
use Rattle.world_events.specs.Within.{IsWithin}
use Rattle.world_events.proofs.generator.generate.Given as goal

abbrev pub invariant-loop-place : goal.invariant-loop-place
invariant-loop-place l = record {
  made : l.events ≡ map (event_of l.number l.folders) (range_with_len 0 l.place);
  state : l.draws.state ≡ state_before l.number l.folders l.place;
  within : All (IsWithin l.folders) l.events;
}
