-- The parts of a text, as they occur in it.
use Rattle.std.specs.Prelude.{◌≡◌, ℕ, List, Option, None, ⊤, map}
use Rattle.std.specs.Option.{option_map}
use Rattle.json_span.specs.Grammar.{Piece, Splits, IsRefusedAt, cut_of}
use Rattle.json_span.specs.Machine.{split_of}
use Rattle.json_span.specs.declared.Member.{Member}
use Rattle.json_span.specs.declared.SpanFault.{SpanFault}
use Rattle.json_span.specs.declared.SpanFault.TheVariants.{Memory, NotSplit}
use Rattle.json_span.specs.declared.state.Kind.TheVariants.{Array, Object}

-- the name and the value that a member's spans cut out of a text
abbrev pub member_of : List ℕ → Member → List ℕ × List ℕ
member_of text m = (cut_of text m.name, cut_of text m.value)

-- The names and the values of an object's text, or None where the text is no object.
unfoldable pub members_of : List ℕ → Option (List (List ℕ × List ℕ))
members_of text = option_map (map (member_of text)) (split_of Object text)

-- The elements of an array's text, or None where the text is no array.
unfoldable pub elements_of : List ℕ → Option (List (List ℕ))
elements_of text = option_map (map (λ m. cut_of text m.value)) (split_of Array text)

-- The text is an object with these names and values.
abbrev pub HasMembers : List ℕ → List (List ℕ × List ℕ) → Type 0
HasMembers text parts = (front : List ℕ) × (pieces : List Piece) × Splits Object text front pieces × (parts ≡ map (λ p. (p.name, p.value)) pieces)

-- The text is an array with these elements.
abbrev pub HasElements : List ℕ → List (List ℕ) → Type 0
HasElements text parts = (front : List ℕ) × (pieces : List Piece) × Splits Array text front pieces × (parts ≡ map (λ p. p.value) pieces)

-- The text is no object, and the place is the length of its longest front with which an object begins; want of memory says nothing.
abbrev pub RefusesMembers : List ℕ → SpanFault → Type 0
RefusesMembers text Memory = ⊤
RefusesMembers text (NotSplit place) = IsRefusedAt Object text place × (members_of text ≡ None)

-- The text is no array, and the place is the length of its longest front with which an array begins; want of memory says nothing.
abbrev pub RefusesElements : List ℕ → SpanFault → Type 0
RefusesElements text Memory = ⊤
RefusesElements text (NotSplit place) = IsRefusedAt Array text place × (elements_of text ≡ None)
