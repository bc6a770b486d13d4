-- The answers to reads of rows, one ref after another.
use Rattle.std.specs.Prelude.{◌≡◌, ◌≢◌, ◌⊎◌, ⊤, ℕ, List, ◌∷◌, map, Contains, Option, Some, None, Vec, Result, Ok, Err}
use Rattle.std.specs.declared.alloc.Global.{Global}
use Rattle.gb_text.specs.Digits.{IsId}
use Rattle.gb_text.specs.Folder.{joined}
use Rattle.gb_text.specs.declared.id.Id.{Id}
use Rattle.gb_text.specs.declared.id.Name.{Name}
use Rattle.gb_store.specs.Files.{Files, History, files_of}
use Rattle.gb_store.specs.declared.store.Change.{Change}
use Rattle.excerpt_cache.specs.Rows.{row_write}
use Rattle.object_store.specs.Held.{objects_in}
use Rattle.bug_ops.specs.declared.snapshot.Excerpt.{Excerpt}
use Rattle.ref_store.specs.Listing.{found_of}
use Rattle.ref_store.specs.Refs.{Head}
use Rattle.ref_store.specs.declared.listing.RefEntry.{RefEntry}
use Rattle.ref_store.specs.declared.listing.RefFound.{RefFound}
use Rattle.ref_store.specs.declared.listing.RefFound.TheVariants as found
use Rattle.repo_state.specs.Answers.{as_entry}
use Rattle.repo_state.specs.Bugs.{HasBugFault}
use Rattle.repo_state.specs.Rows.{stored_row}
use Rattle.repo_state.specs.Sides.{AreHeads, head_at, ref_place}
use Rattle.repo_state.specs.Sound.{HasNoFault, HasPart, IsTrueRow}
use Rattle.repo_state.specs.Sound as parts
use Rattle.repo_state.specs.declared.side.HeadEntry.{HeadEntry}
use Rattle.repo_state.specs.declared.side.Side.TheVariants as side
use Rattle.repo_state.specs.declared.stop.ReadStop.{ReadStop}
use Rattle.repo_state.specs.declared.stop.ReadStop.TheVariants as stop
use Rattle.repo_writes.specs.Kinds.{IsRowWrite}
use Rattle.row_text.specs.Codec.{RowFits}
use Rattle.row_text.specs.Rows.{row_text}
use Rattle.row_text.specs.declared.row.HeadRow.{HeadRow}
use Rattle.repo_rows.specs.declared.bugs.Judged.{Judged}
use Rattle.repo_rows.specs.declared.bugs.Judged.TheVariants as judged
use Rattle.repo_rows.specs.Rows.{AllRows, AllStored, HasBadBug, IsRow, IsStored}

-- a bug has this head
abbrev pub IsHead : Files → List ℕ → HeadEntry → Type 0
IsHead files folder bug = IsId bug.id × (head_at files folder side.Bugs bug.id ≡ Head bug.name)

-- a bug's ref is as it was found
abbrev pub IsFound : Files → List ℕ → RefEntry → Type 0
IsFound files folder entry = IsId entry.id × (found_of (head_at files folder side.Bugs entry.id) ≡ Some entry.found)

-- a write of the row of this bug
pub record IsRowWriteOf (folder : List ℕ) (id : Id) (files : Files) (change : Change) : Type 0 where
  pub is : IsRowWrite folder files change
  pub of : is.id ≡ id

-- a stored row is of this head, or of another one, or there is none
abbrev pub IsJudged : Name → Option HeadRow → Judged → Type 0
IsJudged head stored (judged.Current row) = stored ≡ Some (record { head = head; row = row })
IsJudged head stored (judged.Older older) = (stored ≡ Some older) × (older.head ≢ head)
IsJudged head stored judged.Missing = stored ≡ None

-- the same of the stored row of a bug
abbrev pub StoredRow : Files → List ℕ → HeadEntry → Result Judged ReadStop → Type 0
StoredRow files folder bug (Ok found) = IsJudged bug.name (stored_row files folder bug.id) found
StoredRow files folder bug (Err stop.Memory) = ⊤
StoredRow files folder bug (Err stop.Disk) = ⊤
StoredRow files folder bug (Err (stop.Damaged path)) = ⊥

-- a row was stored, which fits; or nothing was
abbrev pub MaybeStored : List ℕ → Id → HeadRow → History → History → Type 0
MaybeStored folder id row old new = (new ≡ old) ⊎ (RowFits row × (new ≡ row_write folder id (row_text row) ∷ old))

-- the row of a bug that is read whole, or the path of its ref if something is wrong with it
abbrev pub ReadRow : Files → List ℕ → HeadEntry → Result Excerpt ReadStop → Type 0
ReadRow files folder bug (Ok row) = IsRow files folder bug row
ReadRow files folder bug (Err stop.Memory) = ⊤
ReadRow files folder bug (Err stop.Disk) = ⊤
ReadRow files folder bug (Err (stop.Damaged path)) = (path ≡ joined folder (ref_place side.Bugs bug.id)) × HasBugFault files folder bug

-- a row, if there is one, is the stored row of a bug
abbrev pub IsOlder : Files → List ℕ → HeadEntry → Option HeadRow → Type 0
IsOlder files folder bug None = ⊤
IsOlder files folder bug (Some older) = stored_row files folder bug.id ≡ Some older

-- the row of a bug by a true row of another head, if nothing is wrong with the bug but perhaps that an author is unknown; or the path of
-- its ref if something is wrong with it
abbrev pub GrownRow : Files → List ℕ → HeadEntry → HeadRow → Result Excerpt ReadStop → Type 0
GrownRow files folder bug older (Ok row) =
    HasNoFault (objects_in files folder) bug.id bug.name → IsTrueRow (objects_in files folder) bug.id older → IsRow files folder bug row
GrownRow files folder bug older (Err s) = ReadRow files folder bug (Err s)

-- the row of a bug, if the bugs are sound and stored rows true; or the path of its ref if something is wrong with the bug
abbrev pub RowAt : Files → List ℕ → HeadEntry → Result Excerpt ReadStop → Type 0
RowAt files folder bug (Ok row) = HasPart parts.Rows folder files → IsRow files folder bug row
RowAt files folder bug (Err s) = ReadRow files folder bug (Err s)

-- a ref is not a ref text, or something is wrong with the bug at its head
abbrev pub IsBadAt : Files → List ℕ → Id → RefFound → Type 0
IsBadAt files folder id found.Bad = ⊤
IsBadAt files folder id (found.Head name) = HasBugFault files folder (record { id = id; name = name })

-- the row of a ref, or its path if it is damaged
abbrev pub RowOf : Files → List ℕ → RefEntry → Result Excerpt ReadStop → Type 0
RowOf files folder entry (Ok row) = (bug : HeadEntry) × (as_entry bug ≡ entry) × (HasPart parts.Rows folder files → IsRow files folder bug row)
RowOf files folder entry (Err stop.Memory) = ⊤
RowOf files folder entry (Err stop.Disk) = ⊤
RowOf files folder entry (Err (stop.Damaged path)) = (path ≡ joined folder (ref_place side.Bugs entry.id)) × IsBadAt files folder entry.id entry.found

-- the row of a ref is stored
abbrev pub StoredOf : Files → List ℕ → RefEntry → Excerpt → Type 0
StoredOf files folder entry row = (bug : HeadEntry) → as_entry bug ≡ entry → IsStored files folder bug row

-- the rows of the bugs at the heads of these refs, as they are afterwards
pub record AreRowsOf (folder : List ℕ) (old new : Files) (entries : List RefEntry) (rows : List Excerpt) : Type 0 where
  pub bugs : List HeadEntry
  pub heads : map as_entry bugs ≡ entries
  pub all : HasPart parts.Rows folder old → AllRows old folder bugs rows
  pub stored : AllStored new folder bugs rows

-- the rows of these refs, or the path of one that is damaged
abbrev pub RowsOf : List ℕ → Files → Files → List RefEntry → Result (Vec Excerpt Global) ReadStop → Type 0
RowsOf folder old new entries (Ok rows) = AreRowsOf folder old new entries rows.items
RowsOf folder old new entries (Err stop.Memory) = ⊤
RowsOf folder old new entries (Err stop.Disk) = ⊤
RowsOf folder old new entries (Err (stop.Damaged path)) =
    (entry : RefEntry) × Contains entries entry × (path ≡ joined folder (ref_place side.Bugs entry.id)) × IsBadAt old folder entry.id entry.found

-- the rows of all local bugs, if the bugs are sound and stored rows true; each of them that fits is stored afterwards. Or the path of the
-- ref of a bug that is damaged
abbrev pub RowsAnswers : List ℕ → History → History → Result (List Excerpt) ReadStop → Type 0
RowsAnswers folder old new (Ok rows) =
    (heads : List HeadEntry) × AreHeads (files_of old) folder side.Bugs heads × (HasPart parts.Rows folder (files_of old) → AllRows (files_of old) folder heads rows)
    × AllStored (files_of new) folder heads rows
RowsAnswers folder old new (Err stop.Memory) = ⊤
RowsAnswers folder old new (Err stop.Disk) = ⊤
RowsAnswers folder old new (Err (stop.Damaged path)) = HasBadBug (files_of old) folder path
