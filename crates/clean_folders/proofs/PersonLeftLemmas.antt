-- The runs that events left have the seeds of those events, and the texts that they hash: for operations, and for identities.
use Rattle.std.proofs.Common.{◌≡◌, ◌≢◌, ◌≤◌, ◌⊎◌, inl, inr, sym, ◌∙◌, subst, ℕ, List, [], ◌∷◌, All}
use Rattle.std.specs.Prelude.{⊤}
use Rattle.std.specs.List.{zip}
use Rattle.std.proofs.lemmas.List.Elements.{All-head, All-tail}
use Rattle.gb_store.specs.Files.{History}
use Rattle.gb_store.specs.Moments.{IsMoment}
use Rattle.gb_store.specs.Turns.{InTurn}
use Rattle.bug_run.specs.Runs.{IsRun}
use Rattle.exchange_runs.specs.Takes.{RunsAmong, nothing, one_more}
use Rattle.world.specs.Folders.{world_folders}
use Rattle.world.specs.Plays.{IsDone, RunsEvent, RunsWhole}
use Rattle.world.specs.declared.world.Ended.{Ended}
use Rattle.world.proofs.FolderLemmas.{are_apart}
use Rattle.world.proofs.StopLemmas.{nothing_stopped, stopped_is_moment}
use Rattle.world_events.specs.Within.{IsWithin}
use Rattle.world_events.specs.declared.act.Act.{Act}
use Rattle.world_events.specs.declared.event.Event.{Event}
use Rattle.clean_folders.specs.Seeds.{HaveUnlikeSeeds, IsHashed, IsSeed, MakesOne}
use Rattle.identity_runs.specs.Homes.{AreEditedAtHome, AreMadeOnce}
use Rattle.identity_runs.specs.Seeds.{IsHashed as IsHashedForPeople, IsSeed as IsSeedOfPeople, MakePeopleOfUnlikeSeeds, MakesOne as MakesOnePerson}
use Rattle.identity_runs.proofs.SeedLemmas.{made_once}
use Rattle.clean_folders.specs.Clean.{AreClean}
use Rattle.clean_folders.specs.Hashes.{EventHashes, WorldHashes}
use Rattle.clean_folders.specs.WorldSeeds.{EditsABug, HaveDistinctSeeds}
use Rattle.clean_folders.specs.Worlds.{IsCleanWorld}
use Rattle.clean_folders.proofs.EventEditLemmas.{makes_by_edit}
use Rattle.clean_folders.proofs.EventRunLemmas.{event_hashes, event_makes, run_of, run_takes}
use Rattle.clean_folders.specs.WorldPeople.{HasCleanPeople, HaveDistinctPeopleSeeds, MakesAPerson, PersonEventHashes, WorldPeopleHashes}
use Rattle.clean_folders.proofs.PersonLemmas.{edits_no_person, person_by_act, person_hashes}

-- ---- seeds of one kind of commands

-- no event of the kind has one of these seeds
abbrev HaveOthers : (Act → Type 0) → (List ℕ → Type 0) → List Event → Type 0
HaveOthers Kind Seed events = All (λ (event : Event). Kind event.act → Seed event.seed → ⊥) events

-- with the seed of an event, if it is of the kind
abbrev WithSeed : (Act → Type 0) → (List ℕ → Type 0) → Event → List ℕ → Type 0
WithSeed Kind Seed event seed = Seed seed ⊎ (Kind event.act × (event.seed ≡ seed))

-- no later event has the seed of an event, or one before it
fresh : (Kind : Act → Type 0) (Seed : List ℕ → Type 0) (event : Event) (later : List Event) → (Kind event.act → All (λ (other : Event). Kind other.act → other.seed ≢ event.seed) later)
    → HaveOthers Kind Seed (event ∷ later) → HaveOthers Kind (WithSeed Kind Seed event) later
fresh Kind Seed event later distinct others k default below is (inl earlier) = All-tail (λ (e : Event). Kind e.act → Seed e.seed → ⊥) event later others k default below is earlier
fresh Kind Seed event later distinct others k default below is (inr this) = distinct this.0 k default below is (sym this.1)

-- ---- the runs

-- runs with unlike seeds left this history, and none edits an identity; their seeds and their texts are among these: those of operations, and those of identities
record Left (folders : ℕ) (Seed Text PersonSeed PersonText : List ℕ → Type 0) (new : History) : Type 0 where
  runs : RunsAmong (world_folders folders) [] new
  unlike : HaveUnlikeSeeds (world_folders folders) [] new runs
  seeds : (seed : List ℕ) → IsSeed (world_folders folders) [] new runs seed → Seed seed
  texts : (text : List ℕ) → IsHashed (world_folders folders) [] new runs text → Text text
  people : MakePeopleOfUnlikeSeeds (world_folders folders) [] new runs
  people_seeds : (seed : List ℕ) → IsSeedOfPeople (world_folders folders) [] new runs seed → PersonSeed seed
  people_texts : (text : List ℕ) → IsHashedForPeople (world_folders folders) [] new runs text → PersonText text
  at_home : AreEditedAtHome (world_folders folders) [] new runs

-- among more
module _ (folders : ℕ) (Seed Text PersonSeed PersonText MoreSeed MoreText MorePersonSeed MorePersonText : List ℕ → Type 0) (new : History) where
  wider : ((seed : List ℕ) → Seed seed → MoreSeed seed) → ((text : List ℕ) → Text text → MoreText text) → ((seed : List ℕ) → PersonSeed seed → MorePersonSeed seed)
      → ((text : List ℕ) → PersonText text → MorePersonText text) → Left folders Seed Text PersonSeed PersonText new → Left folders MoreSeed MoreText MorePersonSeed MorePersonText new
  wider more_seeds more_texts more_people_seeds more_people_texts left = record {
    runs = left.runs;
    unlike = left.unlike;
    seeds = λ seed is. more_seeds seed (left.seeds seed is);
    texts = λ text is. more_texts text (left.texts text is);
    people = left.people;
    people_seeds = λ seed is. more_people_seeds seed (left.people_seeds seed is);
    people_texts = λ text is. more_people_texts text (left.people_texts text is);
    at_home = left.at_home;
  }

-- with the texts of an event
abbrev WithTexts : ℕ → (List ℕ → Type 0) → Event → History → List ℕ → Type 0
WithTexts folders Text event old text = Text text ⊎ EventHashes folders event old text

abbrev WithPersonTexts : ℕ → (List ℕ → Type 0) → Event → History → List ℕ → Type 0
WithPersonTexts folders Text event old text = Text text ⊎ PersonEventHashes folders event old text

-- with all that an event makes
abbrev LeftWith : ℕ → (Seed Text PersonSeed PersonText : List ℕ → Type 0) → Event → History → History → Type 0
LeftWith folders Seed Text PersonSeed PersonText event old new =
    Left folders (WithSeed EditsABug Seed event) (WithTexts folders Text event old) (WithSeed MakesAPerson PersonSeed event) (WithPersonTexts folders PersonText event old) new

module _ (folders : ℕ) (most : folders ≤ 16) where
  module _ (Seed Text PersonSeed PersonText : List ℕ → Type 0) (event : Event) (within : IsWithin folders event) (ended : Ended) (old : History)
      (other : EditsABug event.act → Seed event.seed → ⊥) (other_people : MakesAPerson event.act → PersonSeed event.seed → ⊥) (left : Left folders Seed Text PersonSeed PersonText old) where
    -- an event that was done is one run more
    module _ (end new : History) (done : IsDone event ended old end) (stop : IsMoment old end new) where
      abbrev run : IsRun (world_folders folders) old new
      run = run_of folders most event within ended old end done new stop

      edits : MakesOne (world_folders folders) old new run → EditsABug event.act
      edits makes = makes_by_edit folders event old (event_makes folders most event within ended old end done new stop makes)

      makes_person : MakesOnePerson (world_folders folders) old new run → MakesAPerson event.act
      makes_person = person_by_act folders most event within ended old end done new stop

      one_run : LeftWith folders Seed Text PersonSeed PersonText event old new
      one_run = record {
        runs = one_more old new left.runs run (run_takes folders most event within ended old end done);
        unlike = (left.unlike, λ makes is. other (edits makes) (subst Seed done.at.seeded (left.seeds run.moment.seed is)));
        seeds = λ seed is. elim is [
          | inl earlier ↦ inl (left.seeds seed earlier)
          | inr this ↦ inr (edits this.0, sym done.at.seeded ∙ this.1)
        ];
        texts = λ text is. elim is [
          | inl earlier ↦ inl (left.texts text earlier)
          | inr this ↦ inr (event_hashes folders most event within ended old end done new stop text this)
        ];
        people = (left.people, λ makes is. other_people (makes_person makes) (subst PersonSeed done.at.seeded (left.people_seeds run.moment.seed is)));
        people_seeds = λ seed is. elim is [
          | inl earlier ↦ inl (left.people_seeds seed earlier)
          | inr this ↦ inr (makes_person this.0, sym done.at.seeded ∙ this.1)
        ];
        people_texts = λ text is. elim is [
          | inl earlier ↦ inl (left.people_texts text earlier)
          | inr this ↦ inr (person_hashes folders most event within ended old end done new stop text this)
        ];
        at_home = (left.at_home, λ id folder edits. absurd (edits_no_person folders most event within ended old end done new stop id folder edits));
      }

    -- and one that was skipped is none
    one_event : (new : History) → RunsEvent (event, ended) old new → LeftWith folders Seed Text PersonSeed PersonText event old new
    one_event new runs = by runs.runs
      where
        by : RunsWhole (event, ended) old runs.end → LeftWith folders Seed Text PersonSeed PersonText event old new
        by (inl (skipped, is)) =
            subst (LeftWith folders Seed Text PersonSeed PersonText event old) (sym (nothing_stopped event.stop old runs.end new is.unwritten runs.stopped))
            (wider folders Seed Text PersonSeed PersonText (WithSeed EditsABug Seed event) (WithTexts folders Text event old) (WithSeed MakesAPerson PersonSeed event) (WithPersonTexts folders PersonText event old) old
            (λ seed is. inl is) (λ text is. inl is) (λ seed is. inl is) (λ text is. inl is) left)
        by (inr done) = one_run runs.end new done (stopped_is_moment event.stop old runs.end new done.runs.wrote.writes done.runs.wrote.grew runs.stopped)

  -- what is left of all events
  abbrev AllLeft : (Text PersonText : List ℕ → Type 0) → History → Type 0
  AllLeft Text PersonText new = Left folders (λ seed. ⊤) Text (λ seed. ⊤) PersonText new

  none_left : (Seed Text PersonSeed PersonText : List ℕ → Type 0) (old new : History) → new ≡ old → Left folders Seed Text PersonSeed PersonText old
      → AllLeft (λ text. Text text ⊎ ⊥) (λ text. PersonText text ⊎ ⊥) new
  none_left Seed Text PersonSeed PersonText old new same left =
      subst (AllLeft (λ text. Text text ⊎ ⊥) (λ text. PersonText text ⊎ ⊥)) (sym same)
      (wider folders Seed Text PersonSeed PersonText (λ seed. ⊤) (λ text. Text text ⊎ ⊥) (λ seed. ⊤) (λ text. PersonText text ⊎ ⊥) old
      (λ seed is. tt) (λ text is. inl is) (λ seed is. tt) (λ text is. inl is) left)

  -- texts of an event, and of those after it
  joined : (A B C : Type 0) → (A ⊎ B) ⊎ C → A ⊎ (B ⊎ C)
  joined A B C (inl (inl before)) = inl before
  joined A B C (inl (inr this)) = inr (inl this)
  joined A B C (inr later) = inr (inr later)

  all_events : (events : List Event) (ends : List Ended) (old new : History) (Seed Text PersonSeed PersonText : List ℕ → Type 0) → All (IsWithin folders) events → HaveDistinctSeeds events
      → HaveDistinctPeopleSeeds events → HaveOthers EditsABug Seed events → HaveOthers MakesAPerson PersonSeed events → (turns : InTurn RunsEvent (zip events ends) old new)
      → Left folders Seed Text PersonSeed PersonText old
      → AllLeft (λ text. Text text ⊎ WorldHashes folders (zip events ends) old new turns text) (λ text. PersonText text ⊎ WorldPeopleHashes folders (zip events ends) old new turns text) new
  all_events [] ends old new Seed Text PersonSeed PersonText within distinct distinct_people others other_people same left = none_left Seed Text PersonSeed PersonText old new same left
  all_events (event ∷ events) [] old new Seed Text PersonSeed PersonText within distinct distinct_people others other_people same left = none_left Seed Text PersonSeed PersonText old new same left
  all_events (event ∷ events) (ended ∷ ends) old new Seed Text PersonSeed PersonText within distinct distinct_people others other_people (mid, first, rest) left =
      wider folders (λ seed. ⊤) (λ text. WithTexts folders Text event old text ⊎ WorldHashes folders (zip events ends) mid new rest text)
      (λ seed. ⊤) (λ text. WithPersonTexts folders PersonText event old text ⊎ WorldPeopleHashes folders (zip events ends) mid new rest text)
      (λ seed. ⊤) (λ text. Text text ⊎ (EventHashes folders event old text ⊎ WorldHashes folders (zip events ends) mid new rest text))
      (λ seed. ⊤) (λ text. PersonText text ⊎ (PersonEventHashes folders event old text ⊎ WorldPeopleHashes folders (zip events ends) mid new rest text)) new
      (λ seed is. is) (λ text. joined (Text text) (EventHashes folders event old text) (WorldHashes folders (zip events ends) mid new rest text))
      (λ seed is. is) (λ text. joined (PersonText text) (PersonEventHashes folders event old text) (WorldPeopleHashes folders (zip events ends) mid new rest text))
      (all_events events ends mid new (WithSeed EditsABug Seed event) (WithTexts folders Text event old) (WithSeed MakesAPerson PersonSeed event) (WithPersonTexts folders PersonText event old)
      (All-tail (IsWithin folders) event events within) distinct.1 distinct_people.1 (fresh EditsABug Seed event events distinct.0 others)
      (fresh MakesAPerson PersonSeed event events distinct_people.0 other_people) rest
      (one_event Seed Text PersonSeed PersonText event (All-head (IsWithin folders) event events within) ended old
      (All-head (λ (e : Event). EditsABug e.act → Seed e.seed → ⊥) event events others) (All-head (λ (e : Event). MakesAPerson e.act → PersonSeed e.seed → ⊥) event events other_people) left mid first))

-- ---- clean worlds

-- texts after none
only : (A : Type 0) → ⊥ ⊎ A → A
only A (inl none) = absurd none
only A (inr is) = is

module _ (folders : ℕ) (files : History) (world : IsCleanWorld folders files) (people : HasCleanPeople folders files world) where
  abbrev Hashed : List ℕ → Type 0
  Hashed text = WorldHashes folders (zip world.events world.ends) [] files world.played.in_turn text

  abbrev HashedForPeople : List ℕ → Type 0
  HashedForPeople text = WorldPeopleHashes folders (zip world.events world.ends) [] files world.played.in_turn text

  left : Left folders (λ seed. ⊤) (λ text. ⊥ ⊎ Hashed text) (λ seed. ⊤) (λ text. ⊥ ⊎ HashedForPeople text) files
  left =
      all_events folders world.most world.events world.ends [] files (λ seed. ⊥) (λ text. ⊥) (λ seed. ⊥) (λ text. ⊥) world.within world.seeds people.seeds
      (λ k default below edits none. none) (λ k default below makes none. none) world.played.in_turn
      (record {
        runs = nothing;
        unlike = tt;
        seeds = λ seed none. none;
        texts = λ text none. none;
        people = tt;
        people_seeds = λ seed none. none;
        people_texts = λ text none. none;
        at_home = tt;
      })

  abbrev clean : AreClean (world_folders folders) files
  clean = record {
    apart = are_apart folders world.most;
    runs = left.runs;
    seeds = left.unlike;
    no_collision = λ one two first second. world.no_collision one two (only (Hashed one) (left.texts one first)) (only (Hashed two) (left.texts two second));
  }

  pub people_have_homes : (are : AreClean (world_folders folders) files) × AreMadeOnce (world_folders folders) [] files are.runs × AreEditedAtHome (world_folders folders) [] files are.runs
  people_have_homes = (
    clean,
    made_once (world_folders folders) [] files left.runs left.people
        (λ one two first second. people.no_collision one two (only (HashedForPeople one) (left.people_texts one first)) (only (HashedForPeople two) (left.people_texts two second))),
    left.at_home,
  )
