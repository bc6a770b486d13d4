-- A turn writes objects, clocks and the local ref of its own entity, and leaves each other ref.
use Rattle.std.proofs.Common.{◌≡◌, ℕ, Bool, true, false, List, [], ◌∷◌, ◌++◌, reverse, Option, inl, inr, refl, sym, ◌∙◌, ap}
use Rattle.std.specs.Prelude.{is_some}
use Rattle.std.specs.List.{AllByRecursion}
use Rattle.std.proofs.lemmas.List.{append-nil}
use Rattle.git_object.specs.Grammar.{object_name}
use Rattle.entity_merge.specs.declared.word.Merged.TheVariants as merged
use Rattle.lamport.specs.Clock.{seen_by}
use Rattle.std.specs.Prelude.{nat_lt}
use Rattle.repo_state.specs.declared.clocks.ClockFile.TheVariants as file
use Rattle.repo_state.specs.declared.side.Side.TheVariants as side
use Rattle.repo_state.proofs.KindLemmas.{head_at-clock_write, head_at-object_write}
use Rattle.merge_steps.specs.Merging.{BugCutOff, BugOutcome, BugStops, GetsHead, PersonCutOff, PersonOutcome, PersonStops}
use Rattle.merge_steps.specs.declared.line.MergeOutcome.TheVariants as outcome
use Rattle.merge_steps.specs.declared.stop.TurnStop.{TurnStop}
use Rattle.merge_steps.specs.declared.stop.TurnStop.TheVariants as stop
use Rattle.merge_steps.proofs.Names.{Id, Name, Files, History, files_of, written, Wrote, WroteSome, Change, Wrote-none, Wrote-one, Wrote-then, WroteSome-back, objects_in, object_write, missing_writes, ref_write, clock_at, clock_write, see_writes, head_at, ref_place, ClockFile, EntityRef, Side, MergeTurn, MergesBug, MergesPerson, merged_writes, MergeOutcome, Merged}
use Rattle.merge_steps.proofs.LeaveLemmas.{wrote_leaves}

-- an object, a clock, or the ref of this id on this side is written
pub data Touches (folder : List ℕ) (of : Side) (id : Id) (change : Change) : Type 0 where
  of_object : (text : List ℕ) → change ≡ object_write folder text → Touches folder of id change
  of_ref : (head : Name) → change ≡ ref_write folder (ref_place of id) head → Touches folder of id change
  of_clock : (which : ClockFile) (number : ℕ) → change ≡ clock_write folder which number → Touches folder of id change

module _ (folder : List ℕ) (of : Side) (id : Id) where
  abbrev pub Touch : Files → Change → Type 0
  Touch files change = Touches folder of id change

  -- the first of some writes
  some_touch : (writes : List Change) → AllByRecursion (Touches folder of id) writes → (old new : History) → WroteSome writes old new → Wrote Touch old new
  some_touch [] each old new same = Wrote-none Touch old new same
  some_touch (change ∷ later) each old new (inl same) = Wrote-none Touch old new same
  some_touch (change ∷ later) each old new (inr some) =
      Wrote-then Touch old (change ∷ old) new (Wrote-one Touch change old (change ∷ old) each.0 (inr refl)) (some_touch later each.1 (change ∷ old) new some)

  -- all of them
  all_touch : (writes : List Change) → AllByRecursion (Touches folder of id) writes → (old new : History) → new ≡ reverse writes ++ old → Wrote Touch old new
  all_touch writes each old new grew = some_touch writes each old new (WroteSome-back writes old new writes [] (sym (append-nil writes)) grew)

  both_touch : (first more : List Change) → AllByRecursion (Touches folder of id) first → AllByRecursion (Touches folder of id) more → AllByRecursion (Touches folder of id) (first ++ more)
  both_touch [] more one two = two
  both_touch (change ∷ first) more one two = (one.0, both_touch first more one.1 two)

  missing_touch : (texts : List (List ℕ)) (files : Files) → AllByRecursion (Touches folder of id) (missing_writes folder texts files)
  missing_touch [] files = tt
  missing_touch (text ∷ texts) files =
      decide (is_some (objects_in files folder (object_name text))) refl (missing_touch texts files) (missing_touch texts (written files (object_write folder text)))
    where
      decide : (b : Bool) → is_some (objects_in files folder (object_name text)) ≡ b → AllByRecursion (Touches folder of id) (missing_writes folder texts files)
          → AllByRecursion (Touches folder of id) (missing_writes folder texts (written files (object_write folder text))) → AllByRecursion (Touches folder of id) (missing_writes folder (text ∷ texts) files)
      decide true h stands free = rw h stands
      decide false h stands free = rw h ((of_object text refl, free))

  see_touch : (which : ClockFile) (clock number : ℕ) → AllByRecursion (Touches folder of id) (see_writes folder which clock number)
  see_touch which clock number = decide (nat_lt clock (seen_by clock number)) refl
    where
      decide : (b : Bool) → nat_lt clock (seen_by clock number) ≡ b → AllByRecursion (Touches folder of id) (see_writes folder which clock number)
      decide true h = rw h ((of_clock which (seen_by clock number) refl, tt))
      decide false h = rw h tt

  -- a ref that is not the one that is written stays
  pub touch_leaves : (on : Side) (other : Id) → ((name : Name) (files : Files) → head_at (written files (ref_write folder (ref_place of id) name)) folder on other ≡ head_at files folder on other)
      → (old new : History) → Wrote Touch old new → head_at (files_of new) folder on other ≡ head_at (files_of old) folder on other
  touch_leaves on other leaves old new wrote = wrote_leaves (λ (files : Files). head_at files folder on other) Touch (λ files change. each files change) old new wrote
    where
      each : (files : Files) (change : Change) → Touches folder of id change → head_at (written files change) folder on other ≡ head_at files folder on other
      each files change (of_object text is) = ap (λ (c : Change). head_at (written files c) folder on other) is ∙ head_at-object_write files folder text on other
      each files change (of_ref head is) = ap (λ (c : Change). head_at (written files c) folder on other) is ∙ leaves head files
      each files change (of_clock which number is) = ap (λ (c : Change). head_at (written files c) folder on other) is ∙ head_at-clock_write files folder on other which number

-- the writes of a bug that gets a head
merged_touch : (folder : List ℕ) (id : Id) (head : Name) (edit create : ℕ) (texts : List (List ℕ)) (files : Files)
    → AllByRecursion (Touches folder side.Bugs id) (merged_writes folder id head edit create texts files)
merged_touch folder id head edit create texts files =
    let creates = see_writes folder file.BugsCreate (clock_at files folder file.BugsCreate) create in
    let edits = see_writes folder file.BugsEdit (clock_at files folder file.BugsEdit) edit in
    both_touch folder side.Bugs id (missing_writes folder texts files) (ref_write folder (ref_place side.Bugs id) head ∷ (creates ++ edits)) (missing_touch folder side.Bugs id texts files)
    (of_ref head refl, both_touch folder side.Bugs id creates edits (see_touch folder side.Bugs id file.BugsCreate (clock_at files folder file.BugsCreate) create) (see_touch folder side.Bugs id file.BugsEdit (clock_at files folder file.BugsEdit) edit))

-- ---- turns of identities

module _ (folder : List ℕ) where
  abbrev PersonTouch : Id → Files → Change → Type 0
  PersonTouch id = Touch folder side.Identities id

  person_outcome : (id : Id) (local : Option Name) (tracked : Name) (out : MergeOutcome) (old new : History) → PersonOutcome folder id local tracked out old new → Wrote (PersonTouch id) old new
  person_outcome id local tracked outcome.Nothing old new is = Wrote-none (PersonTouch id) old new is.1
  person_outcome id local tracked outcome.New old new is = Wrote-one (PersonTouch id) (ref_write folder (ref_place side.Identities id) tracked) old new (of_ref tracked refl) (inr is.1)
  person_outcome id local tracked outcome.Forward old new is = Wrote-one (PersonTouch id) (ref_write folder (ref_place side.Identities id) tracked) old new (of_ref tracked refl) (inr is.1)
  person_outcome id local tracked (outcome.InvalidIdentity f) old new is = Wrote-none (PersonTouch id) old new is.1
  person_outcome id local tracked (outcome.NotForward name) old new is = Wrote-none (PersonTouch id) old new is.2
  person_outcome id local tracked outcome.Joined old new is = absurd is
  person_outcome id local tracked (outcome.InvalidBug f) old new is = absurd is

  pub person_touches : (turn : MergeTurn) (old new : History) → MergesPerson folder turn old new → Wrote (PersonTouch turn.entity.id) old new
  person_touches turn old new is = person_outcome turn.entity.id is.local is.tracked turn.outcome old new is.is

  person_cut : (entity : EntityRef) (old new : History) → PersonCutOff folder entity old new → Wrote (PersonTouch entity.id) old new
  person_cut entity old new (inl same) = Wrote-none (PersonTouch entity.id) old new same
  person_cut entity old new (inr (out, is)) = person_touches (record { entity = entity; outcome = out }) old new is

  -- and what ended the call at one
  pub person_stop_touches : (tracked : Side) (why : TurnStop) (entity : EntityRef) (old new : History) → PersonStops folder tracked why entity old new → Wrote (PersonTouch entity.id) old new
  person_stop_touches tracked stop.Memory entity old new is = person_cut entity old new is
  person_stop_touches tracked stop.Disk entity old new is = person_cut entity old new is
  person_stop_touches tracked (stop.Damaged path) entity old new is = Wrote-none (PersonTouch entity.id) old new is.1
  person_stop_touches tracked (stop.Taken name) entity old new is = absurd is

-- ---- turns of bugs

module _ (folder : List ℕ) (user : Id) (authors : List Id) (now : ℕ) where
  abbrev BugTouch : Id → Files → Change → Type 0
  BugTouch id = Touch folder side.Bugs id

  gets_touch : (id : Id) (local : Option Name) (tracked : Name) (word : Merged) (head : Name) (old new : History) → GetsHead folder user authors now id local tracked word head old new → Wrote (BugTouch id) old new
  gets_touch id local tracked word head old new gets =
      all_touch folder side.Bugs id (merged_writes folder id head gets.edit gets.create gets.texts (files_of old)) (merged_touch folder id head gets.edit gets.create gets.texts (files_of old)) old new gets.wrote

  bug_outcome : (id : Id) (local : Option Name) (tracked : Name) (out : MergeOutcome) (old new : History) → BugOutcome folder user authors now id local tracked out old new → Wrote (BugTouch id) old new
  bug_outcome id local tracked outcome.Nothing old new is = Wrote-none (BugTouch id) old new is.1
  bug_outcome id local tracked outcome.New old new is = gets_touch id local tracked (merged.New tracked) tracked old new is
  bug_outcome id local tracked outcome.Forward old new is = gets_touch id local tracked (merged.Forward tracked) tracked old new is
  bug_outcome id local tracked outcome.Joined old new is = gets_touch id local tracked (merged.Joined is.0) is.0 old new is.1
  bug_outcome id local tracked (outcome.InvalidBug f) old new is = Wrote-none (BugTouch id) old new is.2
  bug_outcome id local tracked (outcome.InvalidIdentity f) old new is = absurd is
  bug_outcome id local tracked (outcome.NotForward name) old new is = absurd is

  pub bug_touches : (turn : MergeTurn) (old new : History) → MergesBug folder user authors now turn old new → Wrote (BugTouch turn.entity.id) old new
  bug_touches turn old new is = bug_outcome turn.entity.id is.local is.tracked turn.outcome old new is.is

  bug_cut : (entity : EntityRef) (old new : History) → BugCutOff folder user authors now entity old new → Wrote (BugTouch entity.id) old new
  bug_cut entity old new (inl same) = Wrote-none (BugTouch entity.id) old new same
  bug_cut entity old new (inr cut) =
      some_touch folder side.Bugs entity.id (merged_writes folder entity.id cut.head cut.edit cut.create cut.texts (files_of old)) (merged_touch folder entity.id cut.head cut.edit cut.create cut.texts (files_of old)) old new cut.wrote

  -- and what ended the call at one
  pub bug_stop_touches : (tracked : Side) (why : TurnStop) (entity : EntityRef) (old new : History) → BugStops folder user authors now tracked why entity old new → Wrote (BugTouch entity.id) old new
  bug_stop_touches tracked stop.Memory entity old new is = bug_cut entity old new is
  bug_stop_touches tracked stop.Disk entity old new is = bug_cut entity old new is
  bug_stop_touches tracked (stop.Damaged path) entity old new is = Wrote-none (BugTouch entity.id) old new is.1
  bug_stop_touches tracked (stop.Taken name) entity old new is = Wrote-none (BugTouch entity.id) old new is.same
