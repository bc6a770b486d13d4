-- The id of a comment, by its 64 places, counted from 0: each is the next digit of the primary id or of the secondary.
use Rattle.std.specs.Prelude.{ℕ, zero, suc, ◌%◌, ◌==◌, ◌&&◌, ◌||◌, nat_le, Bool, List, [], ◌∷◌, ◌++◌, take, drop, if◌then◌else◌}

-- the place is the secondary's: 1, 3, 5, 9, and from 10 on each that leaves 4 when it is divided by 5
abbrev pub is_second : ℕ → Bool
is_second place = (((place == 1 || place == 3) || place == 5) || place == 9) || (nat_le 10 place && place % 5 == 4)

-- so many places, the first of them at `place`, of the digits that are left of both
unfoldable pub combined_from : ℕ → ℕ → List ℕ → List ℕ → List ℕ
combined_from zero place primary secondary = []
combined_from (suc count) place primary secondary =
    if is_second place then take 1 secondary ++ combined_from count (suc place) primary (drop 1 secondary)
    else take 1 primary ++ combined_from count (suc place) (drop 1 primary) secondary

-- the 64 digits of two ids' digits
abbrev pub combined_of : List ℕ → List ℕ → List ℕ
combined_of primary secondary = combined_from 64 0 primary secondary

-- the digits at the places that a predicate takes, the first of the digits at `place`
abbrev pub digits_at : (ℕ → Bool) → ℕ → List ℕ → List ℕ
digits_at takes place [] = []
digits_at takes place (digit ∷ digits) =
    if takes place then digit ∷ digits_at takes (suc place) digits
    else digits_at takes (suc place) digits
