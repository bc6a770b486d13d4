-- The events that a number makes have distinct seeds; so the world that is asked for is clean.
use Rattle.std.proofs.Common.{◌≡◌, ◌≢◌, ◌≤◌, ◌<◌, ◌+◌, ◌^◌, ap, sym, ◌∙◌, ℕ, zero, suc, pos, List, [], map, drop, get_or, arith}
use Rattle.std.specs.Int.{w64, from_be_bytes}
use Rattle.std.specs.List.{range_with_len}
use Rattle.std.proofs.lemmas.List.Elements.{All-map, Contains-get_or}
use Rattle.std.proofs.lemmas.Nat.{from_be_bytes-to_be_bytes_8}
use Rattle.exchange_runs.proofs.MemberLemmas.{in_range}
use Rattle.world.specs.Told.{IsWorld}
use Rattle.world.specs.declared.world.World.{World}
use Rattle.world_agreements.proofs.WithinLemmas.{events_within}
use Rattle.world_events.specs.Events.{event_of, events_of, seed_of, seed_text}
use Rattle.world_texts.specs.Asked.{IsInBounds}
use Rattle.world_texts.specs.declared.asked.Asked.{Asked}
use Rattle.clean_folders.specs.Hashes.{HashesDoNotCollide}
use Rattle.clean_folders.specs.WorldSeeds.{HasOtherSeed, HaveDistinctSeeds, SeedTextsDoNotCollide}
use Rattle.clean_folders.specs.Worlds.{IsCleanWorld}
use Rattle.clean_folders.proofs.StayLemmas.{exchange_stays_clean}

-- a place reads back from the text of a seed
place_is_of_one : (number one two : ℕ) → one < 2 ^ 64 → two < 2 ^ 64 → seed_text number one ≡ seed_text number two → one ≡ two
place_is_of_one number one two first second e =
    sym (from_be_bytes-to_be_bytes_8 one first) ∙ ap (λ (text : List ℕ). from_be_bytes w64 (drop 8 text)) e ∙ from_be_bytes-to_be_bytes_8 two second

module _ (number folders count : ℕ) (few : count ≤ 2 ^ 64) (none : SeedTextsDoNotCollide number count) where
  -- two places have two seeds
  pub seeds_differ : (one two : ℕ) → one < count → two < count → one ≢ two → seed_of number one ≢ seed_of number two
  seeds_differ one two first second differ same =
      none one two first second (λ texts. differ (place_is_of_one number one two (omega (arith, first, few)) (omega (arith, second, few)) texts), same)

  -- from a place on
  distinct_from : (from more : ℕ) → from + more ≤ count → HaveDistinctSeeds (map (event_of number folders) (range_with_len from more))
  distinct_from from zero below = tt
  distinct_from from (suc more) below = (
    λ edits.
        let later = range_with_len (from + 1) more in
        All-map (HasOtherSeed (event_of number folders from)) (event_of number folders) later
        (λ k default within also.
        let range = in_range (from + 1) more (get_or later k default) (Contains-get_or later k default within) in
        seeds_differ (get_or later k default) from (omega (arith, range, below)) (omega (arith, below)) (λ same. omega (arith, range, same))),
    distinct_from (from + 1) more (omega (arith, below)),
  )

  pub generated_distinct : HaveDistinctSeeds (events_of number folders count)
  generated_distinct = distinct_from 0 count (omega arith)

-- ---- the world that is asked for

module _ (asked : Asked) (world : World) (bounds : IsInBounds asked) (made : IsWorld asked world) (none : SeedTextsDoNotCollide asked.number asked.events)
    (no_collision : HashesDoNotCollide asked.folders (events_of asked.number asked.folders asked.events) made.ends [] made.mid made.played) where
  abbrev pub told_before : IsCleanWorld asked.folders made.mid
  told_before = record {
    most = bounds.most;
    events = events_of asked.number asked.folders asked.events;
    within = events_within asked.folders bounds.some asked.number asked.events;
    ends = made.ends;
    played = made.played;
    seeds = generated_distinct asked.number asked.folders asked.events (omega (arith, bounds.few)) none;
    no_collision = no_collision;
  }

  pub told_after : IsCleanWorld asked.folders world.store.history
  told_after = exchange_stays_clean asked.folders (pos (1000000 + asked.events)) made.pulls made.mid world.store.history told_before made.exchanged
