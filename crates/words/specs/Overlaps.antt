-- Whether two folders overlap.
use Rattle.std.specs.Prelude.{ℕ, Bool, true, ◌&&◌, not, List, [], ◌∷◌, if◌then◌else◌}
use Rattle.std.specs.Str.{bytes_eq}
use Rattle.gb_text.specs.Folder.{is_rooted}
use Rattle.gb_text.specs.Overlap.{steps_of}

-- two lists are the same as far as both go
abbrev pub agree : List (List ℕ) → List (List ℕ) → Bool
agree [] others = true
agree (step ∷ steps) [] = true
agree (step ∷ steps) (other ∷ others) = bytes_eq step other && agree steps others

-- both are rooted or neither is, and the steps of one begin with those of the other
abbrev pub overlaps : List ℕ → List ℕ → Bool
overlaps one two = (if is_rooted one then is_rooted two else not (is_rooted two)) && agree (steps_of one) (steps_of two)
