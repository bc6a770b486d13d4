-- The clocks of a folder: what its clock files say, and how one sees a number.
use Rattle.std.specs.Prelude.{ℕ, nat_le, nat_lt, List, [], ◌∷◌, codes, decimal, length, Option, Some, None, if◌then◌else◌}
use Rattle.gb_text.specs.Folder.{joined}
use Rattle.gb_store.specs.Files.{Files, Put}
use Rattle.gb_store.specs.declared.store.Change.{Change}
use Rattle.lamport.specs.Clock.{clock_of, seen_by}
use Rattle.ref_store.specs.declared.read.TheConstants.{MOST_BYTES}
use Rattle.repo_state.specs.declared.clocks.ClockFile.{ClockFile}
use Rattle.repo_state.specs.declared.clocks.ClockFile.TheVariants as file

-- where a clock file stands, below its folder
abbrev pub clock_place : ClockFile → List ℕ
clock_place file.BugsCreate = codes "git-bug/clocks/bugs-create"
clock_place file.BugsEdit = codes "git-bug/clocks/bugs-edit"

-- what a clock file says: 0 where none stands, or it is too long
abbrev pub clock_in : Option (List ℕ) → ℕ
clock_in None = 0
clock_in (Some text) = if nat_le (length text) MOST_BYTES then clock_of text else 0

-- a clock of a folder
abbrev pub clock_at : Files → List ℕ → ClockFile → ℕ
clock_at files folder which = clock_in (files (joined folder (clock_place which)))

-- the write of a clock: its decimal, with no line feed behind it
abbrev pub clock_write : List ℕ → ClockFile → ℕ → Change
clock_write folder which clock = Put (joined folder (clock_place which)) (decimal clock)

-- the write of a clock that sees a number, where the clock changes
abbrev pub see_writes : List ℕ → ClockFile → ℕ → ℕ → List Change
see_writes folder which clock number = if nat_lt clock (seen_by clock number) then clock_write folder which (seen_by clock number) ∷ [] else []
