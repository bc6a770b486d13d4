-- Worked examples of the definitions, computed.
use Rattle.std.specs.Prelude.{◌≡◌, ◌==◌, codes, [], ◌∷◌, ℕ, List, Some, None, Option, drop, slice_index, if◌then◌else◌}
use Rattle.std.proofs.Common.{refl}
use Rattle.excerpt_cache.specs.Codec.{Codec}
use Rattle.excerpt_cache.specs.Rows.{row_of_file}

-- a codec whose rows are texts that begin with an exclamation mark
abbrev read_marked : List ℕ → Option (List ℕ)
read_marked text = if slice_index text 0 == 33 then Some (drop 1 text) else None

abbrev marked : Codec (List ℕ)
marked = record { written = λ row. 33 ∷ row; read_as = read_marked; KeepsRules = λ row. Unit {0} }

no_file : row_of_file marked None ≡ None
no_file = refl

an_empty_file : row_of_file marked (Some []) ≡ None
an_empty_file = refl

a_row : row_of_file marked (Some (codes "!row")) ≡ Some (codes "row")
a_row = refl

no_row : row_of_file marked (Some (codes "{}")) ≡ None
no_row = refl
