use Rattle.std.proofs.Common.{◌≡◌, ◌-◌, ◌++◌, map, All}
use Rattle.std.specs.List.{range_with_len}
use Rattle.world_events.specs.Exchange.{pull_at}
use Rattle.world_events.specs.Within.{IsWithin}
use Rattle.world_events.proofs.exchange.push_gathering.Given as goal

abbrev pub invariant-loop-peer : goal.invariant-loop-peer
invariant-loop-peer l = record {
  made : l.events ≡ l.initial.events ++ map (λ peer. pull_at 0 peer l.now) (range_with_len 1 (l.peer - 1));
  within : All (IsWithin l.folders) l.events;
}
