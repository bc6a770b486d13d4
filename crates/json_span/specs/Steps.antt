-- The code's machine as the state of the definitions, and bytes that leave a state as it is.
use Rattle.std.specs.Prelude.{◌≡◌, ⊤, ℕ, Bool, List, [], ◌∷◌, Option, Some, None, if◌then◌else◌}
use Rattle.json_span.specs.Machine.{◌>>=◌, State, go_to, step}
use Rattle.json_span.specs.declared.state.At.{At}
use Rattle.json_span.specs.declared.state.Kind.{Kind}
use Rattle.json_span.specs.declared.machine.Machine.{Machine}

-- the state in which a machine is
abbrev pub state_of : Machine → State
state_of m = record { at = m.at; kinds = m.nest.0; room = m.nest.1 }

-- the state in which a machine is, where a step was taken
abbrev pub stepped : Bool → Machine → Option State
stepped taken m = if taken then Some (state_of m) else None

-- behind a byte, where something comes next, with the same brackets open
abbrev pub gone_to : Option At → List Kind → ℕ → Option State
gone_to at kinds room = at >>= λ next. go_to next kinds room

-- each byte leaves the state as it is
abbrev pub AllStay : State → List ℕ → Type 0
AllStay s [] = ⊤
AllStay s (b ∷ bs) = (step s.at s.kinds s.room b ≡ Some s) × AllStay s bs
