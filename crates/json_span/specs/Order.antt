-- The order in which the parts of a text lie.
use Rattle.std.specs.Prelude.{ℕ, ◌+◌, ◌≤◌, List, [], ◌∷◌, ⊤}
use Rattle.json_span.specs.declared.Member.{Member}
use Rattle.json_span.specs.declared.Span.{Span}

-- from a place on, each span begins where the one before it has ended, or behind that
abbrev pub AscendFrom : ℕ → List Span → Type 0
AscendFrom place [] = ⊤
AscendFrom place (s ∷ ss) = (place ≤ s.at) × AscendFrom (s.at + s.len) ss

-- the spans of the members, each name before its value
abbrev pub spans_of : List Member → List Span
spans_of [] = []
spans_of (m ∷ ms) = m.name ∷ m.value ∷ spans_of ms
