-- What a merge does with a tracked entity of the folder.
use Rattle.std.specs.Prelude.{◌≡◌, ◌⊎◌, ℕ, List, ◌∷◌, ◌++◌, reverse, Option, Some, None, Ok, Err}
use Rattle.gb_text.specs.Folder.{joined}
use Rattle.gb_text.specs.declared.id.Id.{Id}
use Rattle.gb_text.specs.declared.id.Name.{Name}
use Rattle.gb_store.specs.Files.{Files, History, files_of}
use Rattle.gb_store.specs.Moments.{WroteSome}
use Rattle.gb_store.specs.declared.store.Change.{Change}
use Rattle.object_store.specs.Held.{objects_after}
use Rattle.object_batch.specs.Batches.{CannotHave, MayBePut, missing_writes}
use Rattle.ref_store.specs.Setting.{ref_write}
use Rattle.bug_ops.specs.Kind.{bug_kind}
use Rattle.dag_entity.specs.Faults.{EntityFaultHolds}
use Rattle.identity.specs.Advancing.{AdvanceAnswers}
use Rattle.identity.specs.declared.advancing.AdvanceFault.TheVariants as advance
use Rattle.identity.specs.declared.advancing.Step.TheVariants as step
use Rattle.entity_merge.specs.Joins.{DoesWord, HasWord, IsKnown, both_heads, head_of}
use Rattle.entity_merge.specs.declared.word.Merged.{Merged}
use Rattle.entity_merge.specs.declared.word.Merged.TheVariants as merged
use Rattle.repo_state.specs.Answers.{IsHeadAt}
use Rattle.repo_state.specs.Clocks.{clock_at, see_writes}
use Rattle.repo_state.specs.Sides.{IsBadRef, ref_place}
use Rattle.repo_state.specs.declared.clocks.ClockFile.TheVariants as file
use Rattle.repo_state.specs.declared.refs.EntityRef.{EntityRef}
use Rattle.repo_state.specs.declared.side.Side.{Side}
use Rattle.repo_state.specs.declared.side.Side.TheVariants as side
use Rattle.merge_steps.specs.declared.line.MergeOutcome.{MergeOutcome}
use Rattle.merge_steps.specs.declared.line.MergeOutcome.TheVariants as outcome
use Rattle.merge_steps.specs.declared.stop.TurnStop.{TurnStop}
use Rattle.merge_steps.specs.declared.stop.TurnStop.TheVariants as stop

-- a tracked entity, with its tracking ref as it was listed, and what came of it
pub record MergeTurn : Type 0 where
  pub entity : EntityRef
  pub outcome : MergeOutcome

-- a ref of the folder is no ref text, at this path: the tracking ref as it was listed, or the local one
abbrev pub IsBadTurn : List ℕ → Side → Side → EntityRef → List ℕ → History → History → Type 0
IsBadTurn folder tracked local entity path old new =
    (((entity.head ≡ None) × (path ≡ joined folder (ref_place tracked entity.id)))
    ⊎ ((name : Name) × (entity.head ≡ Some name) × IsBadRef (files_of old) folder local entity.id path)) × (new ≡ old)

-- ---- identities

module _ (folder : List ℕ) where
  -- what came of an identity with this local head, or none, and this tracked one
  abbrev pub PersonOutcome : Id → Option Name → Name → MergeOutcome → History → History → Type 0
  PersonOutcome id local tracked outcome.Nothing old new = AdvanceAnswers (objects_after old folder) id local tracked (Ok step.Nothing) × (new ≡ old)
  PersonOutcome id local tracked outcome.New old new =
      AdvanceAnswers (objects_after old folder) id local tracked (Ok step.New) × (new ≡ ref_write folder (ref_place side.Identities id) tracked ∷ old)
  PersonOutcome id local tracked outcome.Forward old new =
      AdvanceAnswers (objects_after old folder) id local tracked (Ok step.Forward) × (new ≡ ref_write folder (ref_place side.Identities id) tracked ∷ old)
  PersonOutcome id local tracked (outcome.InvalidIdentity f) old new =
      AdvanceAnswers (objects_after old folder) id local tracked (Err (advance.Invalid f)) × (new ≡ old)
  PersonOutcome id local tracked (outcome.NotForward name) old new =
      (one : Name) × AdvanceAnswers (objects_after old folder) id local tracked (Err (advance.NotForward one name)) × (new ≡ old)
  PersonOutcome id local tracked _ old new = ⊥

  -- the turn of an identity: by its tracked head, and by the local head that it has then
  pub record MergesPerson (turn : MergeTurn) (old new : History) : Type 0 where
    pub tracked : Name
    pub is_tracked : turn.entity.head ≡ Some tracked
    pub local : Option Name
    pub is_local : IsHeadAt (files_of old) folder side.Identities turn.entity.id local
    pub is : PersonOutcome turn.entity.id local tracked turn.outcome old new

  -- memory ran out, or the disk failed: nothing was written, or all
  abbrev pub PersonCutOff : EntityRef → History → History → Type 0
  PersonCutOff entity old new = (new ≡ old) ⊎ ((outcome : MergeOutcome) × MergesPerson (record { entity = entity; outcome = outcome }) old new)

  -- where a call ended, at an identity on the tracking side of a remote
  abbrev pub PersonStops : Side → TurnStop → EntityRef → History → History → Type 0
  PersonStops tracked stop.Memory entity old new = PersonCutOff entity old new
  PersonStops tracked stop.Disk entity old new = PersonCutOff entity old new
  PersonStops tracked (stop.Damaged path) entity old new = IsBadTurn folder tracked side.Identities entity path old new
  PersonStops tracked (stop.Taken name) entity old new = ⊥

-- ---- bugs

-- the writes of a bug that gets a head: the objects that are missing, the ref, and the clocks where they change
abbrev pub merged_writes : List ℕ → Id → Name → ℕ → ℕ → List (List ℕ) → Files → List Change
merged_writes folder id head edit create texts files =
    missing_writes folder texts files ++ ref_write folder (ref_place side.Bugs id) head
    ∷ (see_writes folder file.BugsCreate (clock_at files folder file.BugsCreate) create ++ see_writes folder file.BugsEdit (clock_at files folder file.BugsEdit) edit)

module _ (folder : List ℕ) (user : Id) (authors : List Id) (now : ℕ) where
  -- a word holds of a local head, or none, and of a tracked one, and this is what a merge does by it
  pub record HasPlan (id : Id) (local : Option Name) (tracked : Name) (word : Merged) (edit create : ℕ) (texts : List (List ℕ)) (old : History) : Type 0 where
    pub word_is : HasWord (objects_after old folder) local tracked word
    pub does : DoesWord bug_kind (objects_after old folder) id local tracked user authors (clock_at (files_of old) folder file.BugsEdit) now word edit create texts

  -- a bug gets a head by a word: its objects may be put, and these writes were made
  pub record GetsHead (id : Id) (local : Option Name) (tracked : Name) (word : Merged) (head : Name) (old new : History) : Type 0 where
    pub edit : ℕ
    pub create : ℕ
    pub texts : List (List ℕ)
    pub plan : HasPlan id local tracked word edit create texts old
    pub free : MayBePut folder texts old
    pub wrote : new ≡ reverse (merged_writes folder id head edit create texts (files_of old)) ++ old

  -- what came of a bug with this local head, or none, and this tracked one
  abbrev pub BugOutcome : Id → Option Name → Name → MergeOutcome → History → History → Type 0
  BugOutcome id local tracked outcome.Nothing old new = IsKnown (objects_after old folder) local tracked × (new ≡ old)
  BugOutcome id local tracked outcome.New old new = GetsHead id local tracked (merged.New tracked) tracked old new
  BugOutcome id local tracked outcome.Forward old new = GetsHead id local tracked (merged.Forward tracked) tracked old new
  BugOutcome id local tracked outcome.Joined old new = (head : Name) × GetsHead id local tracked (merged.Joined head) head old new
  BugOutcome id local tracked (outcome.InvalidBug f) old new =
      (IsKnown (objects_after old folder) local tracked → ⊥) × EntityFaultHolds bug_kind (objects_after old folder) id (both_heads local tracked) authors f × (new ≡ old)
  BugOutcome id local tracked _ old new = ⊥

  -- the turn of a bug: by its tracked head, and by the local head that it has then
  pub record MergesBug (turn : MergeTurn) (old new : History) : Type 0 where
    pub tracked : Name
    pub is_tracked : turn.entity.head ≡ Some tracked
    pub local : Option Name
    pub is_local : IsHeadAt (files_of old) folder side.Bugs turn.entity.id local
    pub is : BugOutcome turn.entity.id local tracked turn.outcome old new

  -- a bug was to get a head, and the first of its writes were made
  pub record WasCut (entity : EntityRef) (old new : History) : Type 0 where
    pub tracked : Name
    pub is_tracked : entity.head ≡ Some tracked
    pub local : Option Name
    pub is_local : IsHeadAt (files_of old) folder side.Bugs entity.id local
    pub word : Merged
    pub head : Name
    pub is_head : Some head ≡ head_of local word
    pub is_new : word ≡ merged.Nothing → ⊥
    pub edit : ℕ
    pub create : ℕ
    pub texts : List (List ℕ)
    pub plan : HasPlan entity.id local tracked word edit create texts old
    pub free : MayBePut folder texts old
    pub wrote : WroteSome (merged_writes folder entity.id head edit create texts (files_of old)) old new

  -- memory ran out, or the disk failed: nothing was written, or the first of the writes
  abbrev pub BugCutOff : EntityRef → History → History → Type 0
  BugCutOff entity old new = (new ≡ old) ⊎ WasCut entity old new

  -- a merge commit was to join both heads, and a name of one of its objects cannot have its text
  pub record IsBarred (entity : EntityRef) (name : Name) (old new : History) : Type 0 where
    pub tracked : Name
    pub is_tracked : entity.head ≡ Some tracked
    pub local : Option Name
    pub is_local : IsHeadAt (files_of old) folder side.Bugs entity.id local
    pub head : Name
    pub edit : ℕ
    pub create : ℕ
    pub texts : List (List ℕ)
    pub plan : HasPlan entity.id local tracked (merged.Joined head) edit create texts old
    pub cannot : CannotHave folder texts old name
    pub same : new ≡ old

  -- where a call ended, at a bug on the tracking side of a remote
  abbrev pub BugStops : Side → TurnStop → EntityRef → History → History → Type 0
  BugStops tracked stop.Memory entity old new = BugCutOff entity old new
  BugStops tracked stop.Disk entity old new = BugCutOff entity old new
  BugStops tracked (stop.Damaged path) entity old new = IsBadTurn folder tracked side.Bugs entity path old new
  BugStops tracked (stop.Taken name) entity old new = IsBarred entity name old new
