-- The rows of a folder: what lists show of each local bug, and which of them are stored.
use Rattle.std.specs.Prelude.{◌≡◌, ◌≢◌, ⊤, ℕ, List, [], ◌∷◌, Some}
use Rattle.gb_text.specs.Digits.{IsId}
use Rattle.gb_text.specs.Folder.{joined}
use Rattle.gb_text.specs.declared.id.Id.{Id}
use Rattle.gb_store.specs.Files.{Files}
use Rattle.object_store.specs.Held.{objects_in}
use Rattle.bug_ops.specs.declared.snapshot.Excerpt.{Excerpt}
use Rattle.repo_state.specs.Bugs.{IsDamagedBug}
use Rattle.repo_state.specs.Rows.{stored_row}
use Rattle.repo_state.specs.Sides.{AreHeads, ref_place}
use Rattle.repo_state.specs.Sound.{IsTrueRow}
use Rattle.repo_state.specs.declared.side.HeadEntry.{HeadEntry}
use Rattle.repo_state.specs.declared.side.Side.TheVariants as side
use Rattle.row_text.specs.Codec.{RowFits}
use Rattle.row_text.specs.declared.row.HeadRow.{HeadRow}

-- a row of a bug at its head
abbrev pub head_row : HeadEntry → Excerpt → HeadRow
head_row bug row = record { head = bug.name; row = row }

-- what lists show of a bug: nothing is wrong with the entity at its head, but perhaps that an author is unknown, and the row is what the
-- operations of the commits below that head say, in the order of edit clock, pack id and name
abbrev pub IsRow : Files → List ℕ → HeadEntry → Excerpt → Type 0
IsRow files folder bug row = IsTrueRow (objects_in files folder) bug.id (head_row bug row)

-- each bug has the row at its place
abbrev pub AllRows : Files → List ℕ → List HeadEntry → List Excerpt → Type 0
AllRows files folder [] [] = ⊤
AllRows files folder (bug ∷ bugs) (row ∷ rows) = IsRow files folder bug row × AllRows files folder bugs rows
AllRows files folder _ _ = ⊥

-- the rows of all local bugs, in the order of the ids' bytes; every ref reads
pub record AreRows (files : Files) (folder : List ℕ) (rows : List Excerpt) : Type 0 where
  pub heads : List HeadEntry
  pub are_heads : AreHeads files folder side.Bugs heads
  pub all : AllRows files folder heads rows

-- ---- stored rows

-- the stored row of a bug, if it reads, names another head than the bug has
abbrev pub HasNoCurrentRow : Files → List ℕ → HeadEntry → Type 0
HasNoCurrentRow files folder bug = (stored : HeadRow) → stored_row files folder bug.id ≡ Some stored → stored.head ≢ bug.name

-- the row of a bug at its head is stored, if it satisfies the rules and its text is within the limit
abbrev pub IsStored : Files → List ℕ → HeadEntry → Excerpt → Type 0
IsStored files folder bug row = RowFits (head_row bug row) → stored_row files folder bug.id ≡ Some (head_row bug row)

-- each bug has the row at its place, and it is stored
abbrev pub AllStored : Files → List ℕ → List HeadEntry → List Excerpt → Type 0
AllStored files folder [] [] = ⊤
AllStored files folder (bug ∷ bugs) (row ∷ rows) = IsStored files folder bug row × AllStored files folder bugs rows
AllStored files folder _ _ = ⊥

-- ---- damage

-- the ref of a bug that is damaged is at this path
abbrev pub HasBadBug : Files → List ℕ → List ℕ → Type 0
HasBadBug files folder path = (id : Id) × IsId id × IsDamagedBug files folder id × (path ≡ joined folder (ref_place side.Bugs id))
