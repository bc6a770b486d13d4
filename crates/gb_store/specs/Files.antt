-- The files that a list of writes leaves.
use Rattle.std.specs.Prelude.{◌≡◌, ◌↔◌, ◌<◌, ◌≤◌, ℕ, List, [], ◌∷◌, ◌++◌, length, Contains, ◌==◌, Option, Some, None, IsSome, if◌then◌else◌, false, ⊤}
use Rattle.std.specs.List.{list_any}
use Rattle.std.specs.Str.{bytes_eq}
use Rattle.std.specs.Cmp.Lexicographic.{slice_cmp}
use Rattle.std.specs.List.Sorted.{IsStrictlySortedBy}
use Rattle.std.specs.Ordering.{nat_cmp}
use Rattle.gb_store.specs.declared.store.Change.{Change}
use Rattle.gb_store.specs.declared.store.Content.{Content}
use Rattle.gb_store.specs.declared.store.Content.TheVariants.{Absent, Whole, Long}

-- writes, the newest first
abbrev pub History : Type 0
History = List Change

-- what stands at each path
abbrev pub Files : Type 0
Files = List ℕ → Option (List ℕ)

-- a path with its new bytes
abbrev pub Put : List ℕ → List ℕ → Change
Put path bytes = record { path = path; bytes = Some bytes }

-- a path removed
abbrev pub Removed : List ℕ → Change
Removed path = record { path = path; bytes = None }

-- what the last write of a path left there
abbrev pub file_at : History → List ℕ → Option (List ℕ)
file_at [] path = None
file_at (change ∷ earlier) path = if bytes_eq change.path path then change.bytes else file_at earlier path

-- the files that these writes leave
abbrev pub files_of : History → Files
files_of history = λ path. file_at history path

-- these files after a write
abbrev pub written : Files → Change → Files
written files change = λ path. if bytes_eq change.path path then change.bytes else files path

-- the answer to a read of a file, or of none
abbrev pub TellsFile : Option (List ℕ) → ℕ → Content → Type 0
TellsFile file limit Absent = file ≡ None
TellsFile file limit (Whole bytes) = (file ≡ Some bytes) × (length bytes ≤ limit)
TellsFile file limit Long = (bytes : List ℕ) × (file ≡ Some bytes) × (limit < length bytes)

-- what is read has at most so many bytes
abbrev pub IsWithin : ℕ → Content → Type 0
IsWithin limit Absent = ⊤
IsWithin limit (Whole bytes) = length bytes ≤ limit
IsWithin limit Long = ⊤

-- the names right in a folder for which a file stands, each once, in byte order
pub record IsListing (files : Files) (dir : List ℕ) (names : List (List ℕ)) : Type 0 where
  pub rising : IsStrictlySortedBy (slice_cmp nat_cmp) names
  pub members : (name : List ℕ) → Contains names name ↔ ((list_any (λ c. c == 47) name ≡ false) × IsSome (files (dir ++ 47 ∷ name)))
