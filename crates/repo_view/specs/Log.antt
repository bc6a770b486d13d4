-- The log of a bug: a line for each pack of the entity at its head, in the entity's order.
use Rattle.std.specs.Prelude.{◌≡◌, ◌⊎◌, ⊤, ℕ, List, Result, Ok, Err}
use Rattle.gb_text.specs.declared.id.Id.{Id}
use Rattle.gb_text.specs.Folder.{joined}
use Rattle.gb_store.specs.Files.{Files}
use Rattle.bug_ops.specs.declared.op.BugOp.{BugOp}
use Rattle.dag_entity.specs.declared.entity.Entity.{Entity}
use Rattle.render.specs.Log.{log_text_of}
use Rattle.repo_state.specs.Bugs.{BugRefused, FindsBug, IsBug, IsDamagedBug, ReadsBelow}
use Rattle.repo_state.specs.Finds.{Finds, Many, Nothing, One}
use Rattle.repo_state.specs.Sides.{ref_place}
use Rattle.repo_state.specs.declared.side.HeadEntry.{HeadEntry}
use Rattle.repo_state.specs.declared.side.Side.TheVariants as side
use Rattle.repo_state.specs.declared.stop.FindStop.{FindStop}
use Rattle.repo_state.specs.declared.stop.FindStop.TheVariants as stop
use Rattle.repo_state.specs.declared.stop.Missed.TheVariants as missed
use Rattle.repo_state.specs.declared.stop.ReadStop.{ReadStop}

-- the log of a bug
pub record IsLog (files : Files) (folder : List ℕ) (bug : HeadEntry) (text : List ℕ) : Type 0 where
  pub entity : Entity BugOp
  pub is : IsBug files folder bug entity
  pub lines : text ≡ log_text_of entity.packs

-- the answer to `log`, each with what is so of the files; want of memory and faults of the disk have no cause here
abbrev pub LogAnswers : Files → List ℕ → List ℕ → Result (List ℕ) FindStop → Type 0
LogAnswers files folder word (Ok text) = (bug : HeadEntry) × FindsBug files folder word bug × IsLog files folder bug text
LogAnswers files folder word (Err stop.Memory) = ⊤
LogAnswers files folder word (Err stop.Disk) = ⊤
LogAnswers files folder word (Err (stop.Missed missed.NotFound)) = Finds files folder side.Bugs word Nothing
LogAnswers files folder word (Err (stop.Missed (missed.Ambiguous least next))) = Finds files folder side.Bugs word (Many least next)
LogAnswers files folder word (Err (stop.Missed (missed.Damaged path))) =
    (id : Id) × Finds files folder side.Bugs word (One id) × (path ≡ joined folder (ref_place side.Bugs id)) × IsDamagedBug files folder id

-- ---- the answers to parts

-- the log of this bug, or why there is none
abbrev pub LogOfBug : Files → List ℕ → HeadEntry → Result (List ℕ) ReadStop → Type 0
LogOfBug files folder bug (Ok text) = IsLog files folder bug text
LogOfBug files folder bug (Err s) = BugRefused files folder bug s

-- ---- the reads

-- no object was read, or so many below the head of the bug that a word finds
abbrev pub ReadsLog : Files → List ℕ → List ℕ → ℕ → ℕ → Type 0
ReadsLog files folder word before after =
    (after ≡ before) ⊎ ((bug : HeadEntry) × FindsBug files folder word bug × ReadsBelow files folder bug before after)
