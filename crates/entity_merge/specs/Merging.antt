-- A join with its writes.
use Rattle.std.specs.Prelude.{◌≡◌, ◌≤◌, ◌+◌, ◌⊎◌, ◌++◌, ℕ, List, ◌∷◌, [], reverse, Option, Some, Result, Ok, Err}
use Rattle.gb_text.specs.declared.id.Id.{Id}
use Rattle.gb_text.specs.declared.id.Name.{Name}
use Rattle.gb_store.specs.Files.{History, files_of}
use Rattle.object_store.specs.Held.{Objects, objects_after}
use Rattle.object_batch.specs.Batches.{CannotHave, MayBePut, StoppedPut, missing_writes}
use Rattle.op_kind.specs.Meaning.{Meaning}
use Rattle.dag_entity.specs.Entities.{IsEntity, ReadsEach}
use Rattle.dag_entity.specs.Faults.{AreApart, EntityFaultHolds}
use Rattle.dag_entity.specs.Joining.{IsMergeTime, merge_objects}
use Rattle.dag_entity.specs.declared.entity.Entity.{Entity}
use Rattle.entity_merge.specs.Joins.{DoesWord, HasWord, IsKnown, both_heads}
use Rattle.entity_merge.specs.declared.fault.MergeFault.{MergeFault}
use Rattle.entity_merge.specs.declared.fault.MergeFault.TheVariants as stop
use Rattle.entity_merge.specs.declared.joining.MergeOut.{MergeOut}

-- at most three objects were read for each of some names below the heads, and then at most four more
pub record ReadsAndPuts (objects : Objects) (heads : List Name) (before after : ℕ) : Type 0 where
  pub mid : ℕ
  pub planned : ReadsEach objects heads 3 before mid
  pub put : after ≤ mid + 4

module _ {Op State Row : Type 0} (k : Meaning Op State Row) (folder : List ℕ) (id : Id) (local : Option Name) (remote : Name) (author : Id) (authors : List Id) (clock now : ℕ) (old new : History) where
  -- the word holds, and its objects were put, each where it was missing
  pub record IsMerged (out : MergeOut) : Type 0 where
    pub word : HasWord (objects_after old folder) local remote out.merged
    pub texts : List (List ℕ)
    pub does : DoesWord k (objects_after old folder) id local remote author authors clock now out.merged out.edit out.create texts
    pub free : MayBePut folder texts old
    pub wrote : new ≡ reverse (missing_writes folder texts (files_of old)) ++ old

  -- nothing is wrong with both heads together, and a commit with this edit clock is to join them
  pub record NeedsCommit (low : Name) (edit : ℕ) : Type 0 where
    pub is_local : local ≡ Some low
    pub apart : AreApart (objects_after old folder) (low ∷ remote ∷ []) low remote
    pub entity : Entity Op
    pub is : IsEntity k (objects_after old folder) id (low ∷ remote ∷ []) authors entity
    pub time : IsMergeTime (objects_after old folder) low remote clock edit

  -- a commit is to join both heads, and a name of one of its objects cannot have its text
  pub record IsBarred (name : Name) : Type 0 where
    pub low : Name
    pub edit : ℕ
    pub needs : NeedsCommit low edit
    pub cannot : CannotHave folder (merge_objects k low remote author edit now) old name
    pub unwritten : new ≡ old

  -- nothing was written, or the first of the objects of a commit that is to join both heads were put
  abbrev pub IsStopped : Type 0
  IsStopped = (new ≡ old) ⊎ ((low : Name) × (edit : ℕ) × NeedsCommit low edit × StoppedPut folder (merge_objects k low remote author edit now) old new)

  -- The answer to a join, with what was written.
  abbrev pub MergeAnswers : Result MergeOut MergeFault → Type 0
  MergeAnswers (Ok out) = IsMerged out
  MergeAnswers (Err stop.Memory) = IsStopped
  MergeAnswers (Err stop.Disk) = IsStopped
  MergeAnswers (Err (stop.Invalid f)) = (IsKnown (objects_after old folder) local remote → ⊥) × EntityFaultHolds k (objects_after old folder) id (both_heads local remote) authors f × (new ≡ old)
  MergeAnswers (Err (stop.Taken name)) = IsBarred name
