-- The events of a full exchange.
use Rattle.std.specs.Prelude.{ℕ, ℤ, ◌-◌, List, ◌++◌, None, map, replicate}
use Rattle.std.specs.List.{range_with_len}
use Rattle.world_events.specs.declared.act.Act.TheVariants.{Pull}
use Rattle.world_events.specs.declared.event.Event.{Event}

-- a folder pulls from another at this time
abbrev pub pull_at : ℕ → ℕ → ℤ → Event
pull_at folder peer now = record {
  folder = folder;
  act = Pull peer;
  number = 0;
  now = now;
  seed = replicate 32 0;
  stop = None;
}

-- folder 0 pulls from each other folder in order, and then each other folder in order pulls from folder 0
abbrev pub exchange_of : ℕ → ℤ → List Event
exchange_of folders now =
    map (λ peer. pull_at 0 peer now) (range_with_len 1 (folders - 1)) ++ map (λ folder. pull_at folder 0 now) (range_with_len 1 (folders - 1))
