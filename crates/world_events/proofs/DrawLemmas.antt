-- Draws, and the states between events.
use Rattle.std.proofs.Common.{◌≡◌, ℕ, ◌+◌, ◌-◌, ◌*◌, ◌%◌, ◌≤◌, suc, refl, arith}
use Rattle.std.proofs.Math.Nat.{mod-add-mod}
use Rattle.world_events.specs.Draws.{next_state, state_after_lot, state_after_lots}

-- a product that wraps, and then a sum that wraps, are the next state
pub next_state_wrapped : (x : ℕ) → (x * 6364136223846793005 % 18446744073709551616 + 1442695040888963407) % 18446744073709551616 ≡ next_state x
unfolding next_state
next_state_wrapped x = mod-add-mod (x * 6364136223846793005) 18446744073709551616 1442695040888963407

-- after an event that draws, the state is that after four draws more
pub state_after_lots_more : (number folders place : ℕ) → folders ≤ place
    → state_after_lots number (place + 1 - folders) ≡ state_after_lot (state_after_lots number (place - folders))
unfolding state_after_lots
state_after_lots_more number folders place h =
    let e : place + 1 - folders ≡ suc (place - folders) = omega arith in rw e refl

-- before the first draw, the state is the number
pub no_lots_yet : (number folders : ℕ) → state_after_lots number (0 - folders) ≡ number
unfolding state_after_lots
no_lots_yet number folders = let e : 0 - folders ≡ 0 = omega arith in rw e refl
