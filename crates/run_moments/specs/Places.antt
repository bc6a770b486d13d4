-- Where a run writes, and which runs write nothing.
use Rattle.std.specs.Prelude.{◌≡◌, ◌⊎◌, ⊤, ℕ, List, Option, Some, None}
use Rattle.gb_text.specs.Overlap.{Overlap}
use Rattle.gb_text.specs.Digits.{IsId}
use Rattle.gb_text.specs.Folder.{joined}
use Rattle.gb_text.specs.declared.id.Id.{Id}
use Rattle.gb_store.specs.Files.{Files}
use Rattle.excerpt_cache.specs.Rows.{row_place}
use Rattle.bug_run.specs.Exchanges.{written_by}
use Rattle.words.specs.declared.words.Asked.{Asked}
use Rattle.words.specs.declared.words.Asked.TheVariants as asked
use Rattle.words.specs.declared.words.Command.{Command}
use Rattle.words.specs.declared.words.Command.TheVariants.{Edit, Log, PackRefs, Show, Users}

-- the folder in which what arguments ask for writes, if they ask for something
abbrev pub written_in : Asked → Option (List ℕ)
written_in asked.Nothing = None
written_in (asked.Refused bad) = None
written_in (asked.Request request) = Some request.folder
written_in (asked.Exchange request) = Some (written_by request.command request.pair)
written_in (asked.Merge request) = Some request.folder
written_in (asked.List request) = Some request.folder

-- a folder is the one in which is written, or does not overlap it
abbrev pub IsThatOrApart : List ℕ → Asked → Type 0
IsThatOrApart folder asks = (place : List ℕ) → written_in asks ≡ Some place → (place ≡ folder) ⊎ (Overlap folder place → ⊥)

-- a command only reads
abbrev pub OnlyReads : Command → Type 0
OnlyReads Users = ⊤
OnlyReads (Show bug) = ⊤
OnlyReads (Log bug) = ⊤
OnlyReads (Edit edit) = ⊥
OnlyReads PackRefs = ⊥

-- arguments ask for nothing, or are refused, or ask for a command that only reads
abbrev pub AsksToRead : Asked → Type 0
AsksToRead asked.Nothing = ⊤
AsksToRead (asked.Refused bad) = ⊤
AsksToRead (asked.Request request) = OnlyReads request.command
AsksToRead (asked.Exchange request) = ⊥
AsksToRead (asked.Merge request) = ⊥
AsksToRead (asked.List request) = ⊥

-- each file but those of a folder's rows is the same
abbrev pub SameButRows : List ℕ → Files → Files → Type 0
SameButRows folder old new = (path : List ℕ) → ((id : Id) → IsId id → path ≡ joined folder (row_place id) → ⊥) → new path ≡ old path
