-- The open brackets as bits in one word.
use Rattle.std.specs.Prelude.{ℕ, zero, suc, ◌/◌, ◌%◌, Bool, true, false, List, [], ◌∷◌, Option, Some, None, ◌==◌, if◌then◌else◌}
use Rattle.json_span.specs.declared.state.Kind.{Kind}
use Rattle.json_span.specs.declared.state.Kind.TheVariants.{Array, Object}

-- the bit of a kind
abbrev pub bit_of : Kind → ℕ
bit_of Array = 0
bit_of Object = 1

-- the kind of the lowest bit
abbrev pub lowest : ℕ → Kind
lowest bits = if bits % 2 == 1 then Object else Array

-- the kinds of so many bits, the lowest first
abbrev pub kinds_of : ℕ → ℕ → List Kind
kinds_of zero bits = []
kinds_of (suc n) bits = lowest bits ∷ kinds_of n (bits / 2)

-- the kinds of the open brackets and the room for more, with one more open, where there is room
abbrev pub opened : Kind → List Kind → ℕ → Option (List Kind × ℕ)
opened k kinds zero = None
opened k kinds (suc room) = Some (k ∷ kinds, room)

-- the same without the innermost, where there is one
abbrev pub closed : List Kind → ℕ → Option (List Kind × ℕ)
closed [] room = None
closed (k ∷ kinds) room = Some (kinds, suc room)

-- the innermost of the open brackets
abbrev pub innermost : List Kind → Option Kind
innermost [] = None
innermost (k ∷ kinds) = Some k

-- more brackets are open than the outermost
abbrev pub is_deep : List Kind → Bool
is_deep [] = false
is_deep (k ∷ []) = false
is_deep (k ∷ l ∷ kinds) = true
