-- Where the machine stops.
use Rattle.std.specs.Prelude.{◌≡◌, ℕ, ◌+◌, ◌<◌, ◌≤◌, List, Some, None, length, take, ⊤}
use Rattle.json_span.specs.Machine.{State, start, run, split_of}
use Rattle.json_span.specs.declared.SpanFault.{SpanFault}
use Rattle.json_span.specs.declared.SpanFault.TheVariants.{Memory, NotSplit}
use Rattle.json_span.specs.declared.state.Kind.{Kind}

-- So many bytes of the text can be read, and no more.
pub record StopsAt (k : Kind) (text : List ℕ) (place : ℕ) : Type 0 where
  pub within : place ≤ length text
  pub no_split : split_of k text ≡ None
  pub state : State
  pub taken : run (start k) (take place text) ≡ Some state
  pub stuck : place < length text → run (start k) (take (place + 1) text) ≡ None

-- Where memory is not wanting, the machine stops at the place.
abbrev pub Stops : Kind → List ℕ → SpanFault → Type 0
Stops k text Memory = ⊤
Stops k text (NotSplit place) = StopsAt k text place
