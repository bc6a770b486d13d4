-- Texts of arrays and objects that are joined of parts, with no white space.
use Rattle.std.specs.Prelude.{ℕ, List, [], ◌∷◌, ◌++◌, map}
use Rattle.json_span.specs.Grammar.{IsString, IsValueText}

-- each text behind a comma
abbrev pub behind_commas : List (List ℕ) → List ℕ
behind_commas [] = []
behind_commas (x ∷ xs) = 44 ∷ x ++ behind_commas xs

-- texts with commas between
abbrev pub joined : List (List ℕ) → List ℕ
joined [] = []
joined (x ∷ xs) = x ++ behind_commas xs

-- the array of these elements
abbrev pub array_text : List (List ℕ) → List ℕ
array_text xs = 91 ∷ joined xs ++ 93 ∷ []

-- a name, a colon and a value
abbrev pub member_text : List ℕ × List ℕ → List ℕ
member_text m = m.0 ++ 58 ∷ m.1

-- the object of these members
abbrev pub object_text : List (List ℕ × List ℕ) → List ℕ
object_text ms = 123 ∷ joined (map member_text ms) ++ 125 ∷ []

-- the name is a string, and the value a value text of a depth
abbrev pub IsMemberOf : ℕ → List ℕ × List ℕ → Type 0
IsMemberOf depth m = IsString m.0 × IsValueText depth m.1
