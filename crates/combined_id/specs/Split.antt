-- The digits of a prefix of a combined id that belong to either id.
use Rattle.std.specs.Prelude.{ℕ, Bool, not, List, [], ◌∷◌, Option, Some, None, if◌then◌else◌}
use Rattle.gb_text.specs.Prefix.{digits_of}
use Rattle.gb_text.specs.declared.prefix.Prefix.{Prefix}
use Rattle.combined_id.specs.Combined.{digits_at, is_second}

-- the place is the secondary's, or the primary's
abbrev pub takes : Bool → ℕ → Bool
takes second place = if second then is_second place else not (is_second place)

-- the digits at these places, in their order
abbrev pub part_digits : Bool → Prefix → List ℕ
part_digits second prefix = digits_at (takes second) 0 (digits_of prefix)

-- the digits at the places of the primary
abbrev pub first_digits : Prefix → List ℕ
first_digits prefix = digits_at (λ place. not (is_second place)) 0 (digits_of prefix)

-- the digits at the places of the secondary
abbrev pub second_digits : Prefix → List ℕ
second_digits prefix = digits_at is_second 0 (digits_of prefix)

-- the digits, where there are any
abbrev pub some_digits : List ℕ → Option (List ℕ)
some_digits [] = None
some_digits (digit ∷ digits) = Some (digit ∷ digits)
