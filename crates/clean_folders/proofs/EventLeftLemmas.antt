-- The runs that events left have the seeds of those that edit bugs, and the texts that they hash.
use Rattle.std.proofs.Common.{◌≡◌, ◌≤◌, ◌⊎◌, inl, inr, sym, ◌∙◌, subst, ℕ, List, [], ◌∷◌, All}
use Rattle.std.specs.Prelude.{⊤}
use Rattle.std.specs.List.{zip}
use Rattle.std.proofs.lemmas.List.Elements.{All-head, All-tail}
use Rattle.gb_store.specs.Files.{History}
use Rattle.gb_store.specs.Moments.{IsMoment}
use Rattle.gb_store.specs.Turns.{InTurn}
use Rattle.bug_run.specs.Runs.{IsRun}
use Rattle.exchange_runs.specs.Takes.{RunsAmong, nothing, one_more}
use Rattle.world.specs.Folders.{world_folders}
use Rattle.world.specs.Plays.{IsDone, RunsEvent, RunsWhole}
use Rattle.world.specs.declared.world.Ended.{Ended}
use Rattle.world.proofs.FolderLemmas.{are_apart}
use Rattle.world.proofs.StopLemmas.{nothing_stopped, stopped_is_moment}
use Rattle.world_events.specs.Within.{IsWithin}
use Rattle.world_events.specs.declared.event.Event.{Event}
use Rattle.clean_folders.specs.Seeds.{HaveNoCollision, HaveUnlikeSeeds, IsHashed, IsSeed, MakesOne}
use Rattle.clean_folders.specs.Clean.{AreClean}
use Rattle.clean_folders.specs.Hashes.{EventHashes, WorldHashes}
use Rattle.clean_folders.specs.WorldSeeds.{EditsABug, HaveDistinctSeeds}
use Rattle.clean_folders.specs.Worlds.{IsCleanWorld}
use Rattle.clean_folders.proofs.EventEditLemmas.{makes_by_edit}
use Rattle.clean_folders.proofs.EventRunLemmas.{event_hashes, event_makes, run_of, run_takes}

-- the seed is that of the event, which edits a bug
abbrev IsItsSeed : Event → List ℕ → Type 0
IsItsSeed event seed = EditsABug event.act × (event.seed ≡ seed)

-- no event that edits a bug has one of these seeds
abbrev HaveOthers : (List ℕ → Type 0) → List Event → Type 0
HaveOthers Seed events = All (λ (event : Event). EditsABug event.act → Seed event.seed → ⊥) events

-- runs with unlike seeds left this history; their seeds are among these, and their texts too
record Left (folders : ℕ) (Seed Text : List ℕ → Type 0) (new : History) : Type 0 where
  runs : RunsAmong (world_folders folders) [] new
  unlike : HaveUnlikeSeeds (world_folders folders) [] new runs
  seeds : (seed : List ℕ) → IsSeed (world_folders folders) [] new runs seed → Seed seed
  texts : (text : List ℕ) → IsHashed (world_folders folders) [] new runs text → Text text

-- among more
wider : (folders : ℕ) (Seed Text MoreSeed MoreText : List ℕ → Type 0) (new : History) → ((seed : List ℕ) → Seed seed → MoreSeed seed) → ((text : List ℕ) → Text text → MoreText text)
    → Left folders Seed Text new → Left folders MoreSeed MoreText new
wider folders Seed Text MoreSeed MoreText new more_seeds more_texts left = record {
  runs = left.runs;
  unlike = left.unlike;
  seeds = λ seed is. more_seeds seed (left.seeds seed is);
  texts = λ text is. more_texts text (left.texts text is);
}

-- with the seed of an event, and with its texts
abbrev WithSeed : (List ℕ → Type 0) → Event → List ℕ → Type 0
WithSeed Seed event seed = Seed seed ⊎ IsItsSeed event seed

abbrev WithTexts : ℕ → (List ℕ → Type 0) → Event → History → List ℕ → Type 0
WithTexts folders Text event old text = Text text ⊎ EventHashes folders event old text

module _ (folders : ℕ) (most : folders ≤ 16) where
  module _ (Seed Text : List ℕ → Type 0) (event : Event) (within : IsWithin folders event) (ended : Ended) (old : History) (other : EditsABug event.act → Seed event.seed → ⊥) (left : Left folders Seed Text old) where
    -- an event that was done is one run more
    module _ (end new : History) (done : IsDone event ended old end) (stop : IsMoment old end new) where
      abbrev run : IsRun (world_folders folders) old new
      run = run_of folders most event within ended old end done new stop

      edits : MakesOne (world_folders folders) old new run → EditsABug event.act
      edits makes = makes_by_edit folders event old (event_makes folders most event within ended old end done new stop makes)

      one_run : Left folders (WithSeed Seed event) (WithTexts folders Text event old) new
      one_run = record {
        runs = one_more old new left.runs run (run_takes folders most event within ended old end done);
        unlike = (left.unlike, λ makes is. other (edits makes) (subst Seed done.at.seeded (left.seeds run.moment.seed is)));
        seeds = λ seed is. elim is [
          | inl earlier ↦ inl (left.seeds seed earlier)
          | inr this ↦ inr (edits this.0, sym done.at.seeded ∙ this.1)
        ];
        texts = λ text is. elim is [
          | inl earlier ↦ inl (left.texts text earlier)
          | inr this ↦ inr (event_hashes folders most event within ended old end done new stop text this)
        ];
      }

    -- and one that was skipped is none
    one_event : (new : History) → RunsEvent (event, ended) old new → Left folders (WithSeed Seed event) (WithTexts folders Text event old) new
    one_event new runs = by runs.runs
      where
        by : RunsWhole (event, ended) old runs.end → Left folders (WithSeed Seed event) (WithTexts folders Text event old) new
        by (inl (skipped, is)) =
            subst (Left folders (WithSeed Seed event) (WithTexts folders Text event old)) (sym (nothing_stopped event.stop old runs.end new is.unwritten runs.stopped))
            (wider folders Seed Text (WithSeed Seed event) (WithTexts folders Text event old) old (λ seed is. inl is) (λ text is. inl is) left)
        by (inr done) = one_run runs.end new done (stopped_is_moment event.stop old runs.end new done.runs.wrote.writes done.runs.wrote.grew runs.stopped)

  -- no later event has the seed of an event, or one before it
  fresh : (Seed : List ℕ → Type 0) (event : Event) (later : List Event) → HaveDistinctSeeds (event ∷ later) → HaveOthers Seed (event ∷ later) → HaveOthers (WithSeed Seed event) later
  fresh Seed event later distinct others k default below edits (inl earlier) = All-tail (λ (e : Event). EditsABug e.act → Seed e.seed → ⊥) event later others k default below edits earlier
  fresh Seed event later distinct others k default below edits (inr this) = distinct.0 this.0 k default below edits (sym this.1)

  -- what is left of all events
  abbrev AllLeft : (List ℕ → Type 0) → History → Type 0
  AllLeft Text new = Left folders (λ seed. ⊤) Text new

  none_left : (Seed Text : List ℕ → Type 0) (old new : History) → new ≡ old → Left folders Seed Text old → AllLeft (λ text. Text text ⊎ ⊥) new
  none_left Seed Text old new same left =
      subst (AllLeft (λ text. Text text ⊎ ⊥)) (sym same) (wider folders Seed Text (λ seed. ⊤) (λ text. Text text ⊎ ⊥) old (λ seed is. tt) (λ text is. inl is) left)

  all_events : (events : List Event) (ends : List Ended) (old new : History) (Seed Text : List ℕ → Type 0) → All (IsWithin folders) events → HaveDistinctSeeds events → HaveOthers Seed events
      → (turns : InTurn RunsEvent (zip events ends) old new) → Left folders Seed Text old → AllLeft (λ text. Text text ⊎ WorldHashes folders (zip events ends) old new turns text) new
  all_events [] ends old new Seed Text within distinct others same left = none_left Seed Text old new same left
  all_events (event ∷ events) [] old new Seed Text within distinct others same left = none_left Seed Text old new same left
  all_events (event ∷ events) (ended ∷ ends) old new Seed Text within distinct others (mid, first, rest) left =
      wider folders (λ seed. ⊤) (λ text. WithTexts folders Text event old text ⊎ WorldHashes folders (zip events ends) mid new rest text) (λ seed. ⊤)
      (λ text. Text text ⊎ (EventHashes folders event old text ⊎ WorldHashes folders (zip events ends) mid new rest text)) new (λ seed is. is)
      (λ text is. elim is [
        | inl before ↦ elim before [ inl earlier ↦ inl earlier | inr this ↦ inr (inl this) ]
        | inr later ↦ inr (inr later)
      ])
      (all_events events ends mid new (WithSeed Seed event) (WithTexts folders Text event old) (All-tail (IsWithin folders) event events within) distinct.1 (fresh Seed event events distinct others) rest
      (one_event Seed Text event (All-head (IsWithin folders) event events within) ended old (All-head (λ (e : Event). EditsABug e.act → Seed e.seed → ⊥) event events others) left mid first))

-- ---- clean worlds

module _ (folders : ℕ) (files : History) (clean : IsCleanWorld folders files) where
  left : Left folders (λ seed. ⊤) (λ text. ⊥ ⊎ WorldHashes folders (zip clean.events clean.ends) [] files clean.played.in_turn text) files
  left =
      all_events folders clean.most clean.events clean.ends [] files (λ seed. ⊥) (λ text. ⊥) clean.within clean.seeds (λ k default below edits none. none) clean.played.in_turn
      (record { runs = nothing; unlike = tt; seeds = λ seed none. none; texts = λ text none. none })

  no_collision : HaveNoCollision (world_folders folders) [] files left.runs
  no_collision one two first second = clean.no_collision one two (only one (left.texts one first)) (only two (left.texts two second))
    where
      only : (text : List ℕ) → ⊥ ⊎ WorldHashes folders (zip clean.events clean.ends) [] files clean.played.in_turn text → WorldHashes folders (zip clean.events clean.ends) [] files clean.played.in_turn text
      only text (inl none) = absurd none
      only text (inr is) = is

  pub clean_world : AreClean (world_folders folders) files
  clean_world = record { apart = are_apart folders clean.most; runs = left.runs; seeds = left.unlike; no_collision = no_collision }
