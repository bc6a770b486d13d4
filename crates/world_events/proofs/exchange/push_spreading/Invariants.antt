use Rattle.std.proofs.Common.{◌≡◌, ◌-◌, ◌++◌, map, All}
use Rattle.std.specs.List.{range_with_len}
use Rattle.world_events.specs.Exchange.{pull_at}
use Rattle.world_events.specs.Within.{IsWithin}
use Rattle.world_events.proofs.exchange.push_spreading.Given as goal

abbrev pub invariant-loop-folder : goal.invariant-loop-folder
invariant-loop-folder l = record {
  made : l.events ≡ l.initial.events ++ map (λ folder. pull_at folder 0 l.now) (range_with_len 1 (l.folder - 1));
  within : All (IsWithin l.folders) l.events;
}
