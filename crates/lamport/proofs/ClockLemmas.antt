-- Clocks that are written read back.
use Rattle.std.proofs.Common.{◌≡◌, ℕ, ◌≤◌, ◌<◌, ◌^◌, List, [], ◌∷◌, ◌++◌, decimal, refl, ◌∙◌, ap, arith}
use Rattle.gb_text.specs.Decimal.{decimal_of}
use Rattle.gb_text.proofs.DecimalLemmas.{decimal_of-decimal}
use Rattle.gb_text.proofs.LineEndLemmas.{line_of-decimal, line_of-more}
use Rattle.lamport.specs.Clock.{clock_of, number_of}
use Rattle.lamport.specs.declared.clock.TheConstants.{CAP}

number_of-decimal : (n : ℕ) → n ≤ CAP → number_of (decimal_of (decimal n)) ≡ n
number_of-decimal n le =
    let below : n < 2 ^ 64 = omega arith in
    ap number_of (decimal_of-decimal (decimal n) n (record { below = below; prints = refl })) ∙ omega (arith, le)

-- the decimal of a clock reads as it
pub clock_of-decimal : (n : ℕ) → n ≤ CAP → clock_of (decimal n) ≡ n
clock_of-decimal n le =
    let below : n < 2 ^ 64 = omega arith in
    ap (λ (t : List ℕ). number_of (decimal_of t)) (line_of-decimal n below) ∙ number_of-decimal n le

-- so does its line
pub clock_of-line : (n : ℕ) → n ≤ CAP → clock_of (decimal n ++ 10 ∷ []) ≡ n
clock_of-line n le = ap (λ (t : List ℕ). number_of (decimal_of t)) (line_of-more (decimal n)) ∙ number_of-decimal n le
