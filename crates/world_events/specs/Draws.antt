-- Numbers that are drawn one after another.
use Rattle.std.specs.Prelude.{ℕ, zero, suc, ◌+◌, ◌*◌, ◌/◌, ◌%◌, ◌^◌}
use Rattle.world_events.specs.declared.draws.Lot.{Lot}

-- the state after a draw
unfoldable pub next_state : ℕ → ℕ
next_state x = (x * 6364136223846793005 + 1442695040888963407) % 2 ^ 64

-- the number drawn, by the state after it
abbrev pub drawn : ℕ → ℕ
drawn x = x / 2 ^ 33

-- the state after four draws
abbrev pub state_after_lot : ℕ → ℕ
state_after_lot x = next_state (next_state (next_state (next_state x)))

-- the four numbers drawn from a state
abbrev pub lot_from : ℕ → Lot
lot_from x = record {
  folder = drawn (next_state x);
  act = drawn (next_state (next_state x));
  pick = drawn (next_state (next_state (next_state x)));
  other = drawn (state_after_lot x);
}

-- the state after so many times four draws, from this number
unfoldable pub state_after_lots : ℕ → ℕ → ℕ
state_after_lots number zero = number
state_after_lots number (suc lots) = state_after_lot (state_after_lots number lots)
