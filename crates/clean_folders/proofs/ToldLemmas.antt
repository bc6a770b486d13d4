-- The events that a number makes have distinct seeds, also those that make identities; so the world that is asked for has clean people.
use Rattle.std.proofs.Common.{◌≢◌, ◌≤◌, ◌<◌, ◌+◌, ◌^◌, ℕ, zero, suc, [], map, get_or, arith}
use Rattle.std.specs.List.{range_with_len}
use Rattle.std.proofs.lemmas.List.Elements.{All-map, Contains-get_or}
use Rattle.exchange_runs.proofs.MemberLemmas.{in_range}
use Rattle.world.specs.Told.{IsWorld}
use Rattle.world.specs.declared.world.World.{World}
use Rattle.world_events.specs.Events.{event_of, events_of, seed_of}
use Rattle.world_events.specs.declared.event.Event.{Event}
use Rattle.world_texts.specs.Asked.{IsInBounds}
use Rattle.world_texts.specs.declared.asked.Asked.{Asked}
use Rattle.clean_folders.specs.Hashes.{HashesDoNotCollide}
use Rattle.clean_folders.specs.WorldSeeds.{SeedTextsDoNotCollide}
use Rattle.clean_folders.specs.Worlds.{IsCleanWorld}
use Rattle.clean_folders.proofs.GeneratedLemmas.{seeds_differ, told_before}
use Rattle.clean_folders.specs.WorldPeople.{HasCleanPeople, HaveDistinctPeopleSeeds, MakesAPerson, PeopleHashesDoNotCollide}

module _ (number folders count : ℕ) (few : count ≤ 2 ^ 64) (none : SeedTextsDoNotCollide number count) where
  -- from a place on
  distinct_from : (from more : ℕ) → from + more ≤ count → HaveDistinctPeopleSeeds (map (event_of number folders) (range_with_len from more))
  distinct_from from zero below = tt
  distinct_from from (suc more) below = (
    λ makes.
        let later = range_with_len (from + 1) more in
        All-map (λ (other : Event). MakesAPerson other.act → other.seed ≢ seed_of number from) (event_of number folders) later
        (λ k default within also.
        let range = in_range (from + 1) more (get_or later k default) (Contains-get_or later k default within) in
        seeds_differ number folders count few none (get_or later k default) from (omega (arith, range, below)) (omega (arith, below)) (λ same. omega (arith, range, same))),
    distinct_from (from + 1) more (omega (arith, below)),
  )

  distinct_people : HaveDistinctPeopleSeeds (events_of number folders count)
  distinct_people = distinct_from 0 count (omega arith)

-- ---- the world that is asked for

module _ (asked : Asked) (world : World) (bounds : IsInBounds asked) (made : IsWorld asked world) (none : SeedTextsDoNotCollide asked.number asked.events)
    (no_collision : HashesDoNotCollide asked.folders (events_of asked.number asked.folders asked.events) made.ends [] made.mid made.played) where
  pub told_people : PeopleHashesDoNotCollide asked.folders (events_of asked.number asked.folders asked.events) made.ends [] made.mid made.played
      → (is : IsCleanWorld asked.folders made.mid) × HasCleanPeople asked.folders made.mid is
  told_people none_of_people = (
    told_before asked world bounds made none no_collision,
    record {
      seeds = distinct_people asked.number asked.folders asked.events (omega (arith, bounds.few)) none;
      no_collision = none_of_people;
    },
  )
