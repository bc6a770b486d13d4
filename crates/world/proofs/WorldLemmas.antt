-- What events leave is left by runs that stop somewhere.
use Rattle.std.proofs.Common.{◌≡◌, ◌≤◌, ◌⊎◌, inl, inr, sym, subst, ℕ, true, List, [], ◌∷◌, All}
use Rattle.std.proofs.lemmas.List.Elements.{All-head, All-tail}
use Rattle.std.specs.List.{zip}
use Rattle.gb_store.specs.Files.{History, files_of}
use Rattle.gb_store.specs.Turns.{InTurn}
use Rattle.bug_run.specs.Runs.{AreAllSound, IsRun, Runs, nothing, one_more}
use Rattle.bug_run.proofs.RunsLemmas.{runs_from_nothing}
use Rattle.world.proofs.FolderLemmas.{are_apart}
use Rattle.words.specs.Words.{asked_of}
use Rattle.world.proofs.StayLemmas.{IsAskedAmong, event_asks_among, stays_among}
use Rattle.world.proofs.StopLemmas.{nothing_stopped, stopped_is_moment}
use Rattle.world.specs.Folders.{world_folders}
use Rattle.world.specs.Plays.{ArePlayed, IsDone, IsSkipped, RunsEvent}
use Rattle.world.specs.declared.world.Ended.{Ended}
use Rattle.world.specs.declared.world.Ended.TheVariants.{Skipped}
use Rattle.world_events.specs.Within.{IsWithin}
use Rattle.world_events.specs.declared.event.Event.{Event}

module _ (folders : ℕ) (most : folders ≤ 16) where
  -- an event that is not skipped is a run among the folders, which stops where the event is stopped
  event_runs : (run : Event × Ended) (old new : History) → IsWithin folders run.0 → RunsEvent run old new
      → (new ≡ old) ⊎ ((it : IsRun (world_folders folders) old new) × IsAskedAmong (world_folders folders) (asked_of it.words))
  event_runs run old new within event = by event.runs
    where
      by : ((run.1 ≡ Skipped) × IsSkipped run.0 old event.end) ⊎ IsDone run.0 run.1 old event.end
          → (new ≡ old) ⊎ ((it : IsRun (world_folders folders) old new) × IsAskedAmong (world_folders folders) (asked_of it.words))
      by (inl (skipped, is)) = inl (nothing_stopped run.0.stop old event.end new is.unwritten event.stopped)
      by (inr done) =
          let among = event_asks_among folders most run.0 done.bugs done.words within (λ id contained. ((done.has.are.members id).0 contained).0) done.are in
          inr (
            record {
              words = done.words;
              place = stays_among (world_folders folders) (asked_of done.words) among;
              moment = done.moment;
              end = event.end;
              sink_tells = true;
              takes_memory = true;
              before = [];
              after = done.text;
              status = done.answer;
              answers = done.runs.answers;
              stop = stopped_is_moment run.0.stop old event.end new done.runs.wrote.writes done.runs.wrote.grew event.stopped;
            },
            among,
          )

  -- what each such run keeps, events keep
  pub events_keep : (Good : History → Type 0)
      → ((mid new : History) → Good mid → (it : IsRun (world_folders folders) mid new) → IsAskedAmong (world_folders folders) (asked_of it.words) → Good new)
      → (events : List Event) (ends : List Ended) (old new : History) → All (IsWithin folders) events → Good old → InTurn RunsEvent (zip events ends) old new → Good new
  events_keep Good keeps [] ends old new within good same = subst Good (sym same) good
  events_keep Good keeps (event ∷ events) [] old new within good same = subst Good (sym same) good
  events_keep Good keeps (event ∷ events) (ended ∷ ends) old new within good (mid, first, rest) =
      events_keep Good keeps events ends mid new (All-tail (IsWithin folders) event events within)
      (by (event_runs (event, ended) old mid (All-head (IsWithin folders) event events within) first)) rest
    where
      by : (mid ≡ old) ⊎ ((it : IsRun (world_folders folders) old mid) × IsAskedAmong (world_folders folders) (asked_of it.words)) → Good mid
      by (inl same) = subst Good (sym same) good
      by (inr (it, among)) = keeps old mid good it among

  pub events_run : (events : List Event) (ends : List Ended) (old new : History) → All (IsWithin folders) events → ArePlayed events ends old new
      → Runs (world_folders folders) old new
  events_run events ends old new within played =
      events_keep (Runs (world_folders folders) old) (λ mid next before it among. one_more mid next before it) events ends old new within nothing played.in_turn

  pub world_is_sound : (events : List Event) (ends : List Ended) (new : History) → All (IsWithin folders) events → ArePlayed events ends [] new
      → AreAllSound (world_folders folders) (files_of new)
  world_is_sound events ends new within played =
      runs_from_nothing (world_folders folders) (are_apart folders most) new (events_run events ends [] new within played)
