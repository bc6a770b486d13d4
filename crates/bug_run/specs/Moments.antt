-- The time of a run.
use Rattle.std.specs.Prelude.{ℕ, ℤ, pos, negsuc}

-- the seconds since 1970, where a negative number counts as 0
abbrev pub seconds_of : ℤ → ℕ
seconds_of (pos n) = n
seconds_of (negsuc n) = 0
