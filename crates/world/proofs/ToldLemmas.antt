-- The text of the world that is asked for.
use Rattle.std.proofs.Common.{◌≡◌, ◌+◌, ◌∙◌, ℕ, ℤ, pos, List, [], length, Result, Ok, Err, ap, subst}
use Rattle.std.specs.Prelude.{IfOk}
use Rattle.std.proofs.lemmas.List.FromFn.{length-map-range_with_len}
use Rattle.world_events.specs.Events.{event_of, events_of}
use Rattle.world_events.specs.Exchange.{exchange_of}
use Rattle.world_events.specs.declared.event.Event.{Event}
use Rattle.world_texts.specs.declared.asked.Asked.{Asked}
use Rattle.world.specs.Counts.{IsCounted}
use Rattle.world.specs.Plays.{ArePlayed}
use Rattle.world.specs.Told.{IsSummary, IsTold}
use Rattle.world.specs.Worlds.{IsPlayed}
use Rattle.world.specs.declared.world.Ended.{Ended}
use Rattle.world.specs.declared.world.World.{World}

-- the world after its exchange
module _ (asked : Asked) (events : List Event) (played world : World) (now : ℤ)
    (made : events ≡ events_of asked.number asked.folders asked.events) (plays : IsPlayed events played) (folders : played.folders ≡ asked.folders) (count : played.events ≡ length events)
    (time : now ≡ pos (1000000 + asked.events)) (pulls : (ends : List Ended) × ArePlayed (exchange_of played.folders now) ends played.store.history world.store.history)
    (same : world ≡ record played { store = world.store }) where
  counts : IsCounted plays.ends world
  counts = record {
    done = ap (λ (w : World). w.done) same ∙ plays.counts.done;
    refused = ap (λ (w : World). w.refused) same ∙ plays.counts.refused;
    skipped = ap (λ (w : World). w.skipped) same ∙ plays.counts.skipped;
  }

  all : world.events ≡ asked.events
  all =
      ap (λ (w : World). w.events) same ∙ count ∙ ap length made
      ∙ length-map-range_with_len (event_of asked.number asked.folders) 0 asked.events

  exchanged : ArePlayed (exchange_of asked.folders (pos (1000000 + asked.events))) pulls.0 played.store.history world.store.history
  exchanged =
      subst (λ (n : ℕ). ArePlayed (exchange_of n (pos (1000000 + asked.events))) pulls.0 played.store.history world.store.history) folders
      (subst (λ (t : ℤ). ArePlayed (exchange_of played.folders t) pulls.0 played.store.history world.store.history) time pulls.1)

  pub told : {E : Type 0} (r : Result (List ℕ) E) → IfOk r (IsSummary world) → IfOk r (IsTold asked)
  told (Ok text) summary = record {
    world = world;
    made = record {
      ends = plays.ends;
      mid = played.store.history;
      played = subst (λ (es : List Event). ArePlayed es plays.ends [] played.store.history) made plays.are;
      counts = counts;
      events = all;
      folders = ap (λ (w : World). w.folders) same ∙ folders;
      pulls = pulls.0;
      exchanged = exchanged;
    };
    summary = summary;
  }
  told (Err e) summary = summary
