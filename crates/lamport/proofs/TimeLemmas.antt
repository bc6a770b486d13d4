-- The numbers that are clocks of commits.
use Rattle.std.proofs.Common.{◌≡◌, ℕ, ◌≤◌, ◌-◌, ◌^◌, ◌&&◌, nat_le, true, cond, Some, None, ◌∙◌, ap, sym, le-leb, leb-true}
use Rattle.std.proofs.lemmas.Bool.{and_parts}
use Rattle.std.proofs.lemmas.Option.{cond_some}
use Rattle.gb_text.specs.declared.decimal.TheConstants.{GREATEST_TIME}
use Rattle.lamport.specs.Clock.{time_of}

-- a number in the bounds is one
pub time_of-within : (n : ℕ) → 1 ≤ n → n ≤ 2 ^ 63 - 1 → time_of n ≡ Some n
time_of-within n low high =
    ap (λ b. cond (b && nat_le n GREATEST_TIME) (Some n) None) (le-leb 1 n low)
    ∙ ap (λ b. cond (true && b) (Some n) None) (le-leb n GREATEST_TIME high)

-- and no other is
pub time_of-only : (n time : ℕ) → time_of n ≡ Some time → (time ≡ n) × (1 ≤ n) × (n ≤ 2 ^ 63 - 1)
time_of-only n time is =
    let found = cond_some (nat_le 1 n && nat_le n GREATEST_TIME) n time is in
    let both = and_parts (nat_le 1 n) (nat_le n GREATEST_TIME) found.0 in
    (sym found.1, leb-true 1 n both.0, leb-true n GREATEST_TIME both.1)
