-- What was seen under a name while its members are gone through.
use Rattle.std.specs.Prelude.{ℕ, List, [], ◌∷◌, Option, Some, None}

-- the value that was seen, if any
abbrev pub seen : Option (List ℕ) → List (List ℕ)
seen None = []
seen (Some v) = v ∷ []
