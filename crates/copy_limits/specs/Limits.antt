-- The limits of what lies in the trees of commits.
use Rattle.std.specs.Prelude.{◌≡◌, ◌⊎◌, ◌+◌, ℕ}
use Rattle.remote_copy.specs.declared.open.TheConstants.{MOST_TREES}
use Rattle.remote_copy.specs.declared.work.TheConstants.{MOST_OTHERS}

-- a copy is told by this number where it has too many objects that are no commits, or too many trees one below the other
abbrev pub IsTreeLimit : ℕ → Type 0
IsTreeLimit count = (count ≡ MOST_OTHERS + 1) ⊎ (count ≡ MOST_TREES + 1)
