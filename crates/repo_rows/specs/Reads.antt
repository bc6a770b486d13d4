-- How many objects rows read.
use Rattle.std.specs.Prelude.{◌≡◌, ◌⊎◌, ℕ, List, [], ◌∷◌, ◌++◌, map, Contains, Option, Some}
use Rattle.std.specs.Cmp.Lexicographic.{slice_cmp}
use Rattle.std.specs.List.Sorted.{IsStrictlySortedBy}
use Rattle.std.specs.Ordering.{nat_cmp}
use Rattle.gb_store.specs.Files.{Files}
use Rattle.ref_store.specs.declared.listing.RefEntry.{RefEntry}
use Rattle.repo_state.specs.Answers.{as_entry}
use Rattle.repo_state.specs.Bugs.{ReadsAbove, ReadsBelow}
use Rattle.repo_state.specs.Rows.{stored_row}
use Rattle.repo_state.specs.declared.side.HeadEntry.{HeadEntry}
use Rattle.row_text.specs.declared.row.HeadRow.{HeadRow}
use Rattle.repo_rows.specs.Reading.{IsHead}

-- where steps by the single parent lead from a bug's head to that of a row, at most three objects were read for each commit above that
abbrev pub ReadsAboveRow : Files → List ℕ → HeadEntry → Option HeadRow → ℕ → ℕ → Type 0
ReadsAboveRow files folder bug older before after = (row : HeadRow) → older ≡ Some row → ReadsAbove files folder bug row.head before after

-- of a bug: at most three objects for each of some commits below its head; none if its stored row is of the head; and where steps by the
-- single parent lead to the head of its stored row, at most three for each commit above that
pub record ReadsBug (files : Files) (folder : List ℕ) (bug : HeadEntry) (before after : ℕ) : Type 0 where
  pub below : ReadsBelow files folder bug before after
  pub current : (row : HeadRow) → stored_row files folder bug.id ≡ Some row → row.head ≡ bug.name → after ≡ before
  pub above : ReadsAboveRow files folder bug (stored_row files folder bug.id) before after

-- of a ref: none, or those of the bug that has it
abbrev pub ReadsRef : Files → List ℕ → RefEntry → ℕ → ℕ → Type 0
ReadsRef files folder entry before after = (after ≡ before) ⊎ ((bug : HeadEntry) × (as_entry bug ≡ entry) × ReadsBug files folder bug before after)

-- of these bugs, one after another
abbrev pub ReadsBugs : Files → List ℕ → List HeadEntry → ℕ → ℕ → Type 0
ReadsBugs files folder [] before after = after ≡ before
ReadsBugs files folder (bug ∷ bugs) before after = (mid : ℕ) × ReadsBug files folder bug before mid × ReadsBugs files folder bugs mid after

-- of the bugs that have the first of some refs
pub record ReadsFirst (files : Files) (folder : List ℕ) (entries : List RefEntry) (before after : ℕ) : Type 0 where
  pub bugs : List HeadEntry
  pub rest : List RefEntry
  pub are : entries ≡ map as_entry bugs ++ rest
  pub reads : ReadsBugs files folder bugs before after

-- of some local bugs, each once
pub record ReadsRows (files : Files) (folder : List ℕ) (before after : ℕ) : Type 0 where
  pub bugs : List HeadEntry
  pub rising : IsStrictlySortedBy (slice_cmp nat_cmp) (map (λ (bug : HeadEntry). bug.id.bytes) bugs)
  pub each : (bug : HeadEntry) → Contains bugs bug → IsHead files folder bug
  pub reads : ReadsBugs files folder bugs before after
