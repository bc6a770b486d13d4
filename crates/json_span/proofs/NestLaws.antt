-- The open brackets, as bits and as a list of kinds.
use Rattle.std.proofs.Common.{◌≡◌, ◌≢◌, ℕ, zero, suc, ◌+◌, ◌-◌, ◌*◌, ◌/◌, ◌%◌, ◌<◌, ◌≤◌, ◌^◌, nat_lt, List, ◌∷◌, Some, refl, sym, ap, ◌∙◌, arith}
use Rattle.std.proofs.Math.Nat.{pow-succ'}
use Rattle.std.proofs.Math.Pow.{pow_mono}
use Rattle.std.proofs.lemmas.Bool.Decides.{nat_tests}
use Rattle.json_span.specs.Nest.{kinds_of, opened, closed, is_deep, bit_of}
use Rattle.json_span.specs.declared.state.Kind.{Kind}
use Rattle.json_span.specs.declared.state.Kind.TheVariants.{Array, Object}

-- A bit less is one kind less.
pub closed_is : (bits room : ℕ) → room ≤ 101 → room ≢ 101 → Some (kinds_of (101 - (room + 1)) (bits / 2), room + 1) ≡ closed (kinds_of (101 - room) bits) room
closed_is bits room le ne =
    let e : 101 - room ≡ suc (101 - (room + 1)) = omega arith in
    let one : room + 1 ≡ suc room = omega arith in
    ap (λ (n : ℕ). Some (kinds_of (101 - (room + 1)) (bits / 2), n)) one ∙ ap (λ (n : ℕ). closed (kinds_of n bits) room) (sym e)

kinds_pushed : (n bits : ℕ) (k : Kind) → kinds_of (suc n) (2 * bits + bit_of k) ≡ k ∷ kinds_of n bits
kinds_pushed n bits Array = let h : (2 * bits + 0) / 2 ≡ bits = omega arith in let o : (2 * bits + 0) % 2 ≡ 0 = omega arith in rw (h, o) refl
kinds_pushed n bits Object = let h : (2 * bits + 1) / 2 ≡ bits = omega arith in let o : (2 * bits + 1) % 2 ≡ 1 = omega arith in rw (h, o) refl

opened_by : (bits bit n a r s : ℕ) (k : Kind) → a ≡ suc n → r ≡ suc s → bit ≡ bit_of k → Some (kinds_of a (2 * bits + bit), s) ≡ opened k (kinds_of n bits) r
opened_by bits bit n a r s k ea er eb =
    ap (λ (x : ℕ). Some (kinds_of x (2 * bits + bit), s)) ea ∙ ap (λ (x : ℕ). Some (kinds_of (suc n) (2 * bits + x), s)) eb ∙ ap (λ (x : List Kind). Some (x, s)) (kinds_pushed n bits k) ∙ ap (opened k (kinds_of n bits)) (sym er)

-- A bit more is one kind more.
pub opened_is : (bits room bit : ℕ) (k : Kind) → room ≤ 101 → room ≢ 0 → bit ≡ bit_of k → Some (kinds_of (101 - (room - 1)) (2 * bits + bit), room - 1) ≡ opened k (kinds_of (101 - room) bits) room
opened_is bits room bit k le ne is = opened_by bits bit (101 - room) (101 - (room - 1)) room (room - 1) k (omega arith) (omega arith) is

deep_of : (n bits : ℕ) → is_deep (kinds_of n bits) ≡ nat_lt 1 n
deep_of zero bits = grind (arith, nat_tests)
deep_of (suc zero) bits = grind (arith, nat_tests)
deep_of (suc (suc n)) bits = grind (arith, nat_tests)

-- Little room is more than one kind.
pub deep_is : (bits room : ℕ) → room ≤ 101 → nat_lt room 100 ≡ is_deep (kinds_of (101 - room) bits)
deep_is bits room le = grind (arith, nat_tests, deep_of (101 - room) bits)

-- A bit more does not overflow the word.
pub twice_fits : (bits room : ℕ) → room ≤ 101 → bits < 2 ^ (101 - room) → 2 * bits + 1 < 2 ^ 128
twice_fits bits room le lt =
    let less : 101 - room ≤ 101 = omega arith in
    let bound : 2 ^ (101 - room) ≤ 2 ^ 101 = pow_mono less in
    omega arith

-- A bit more is below the next power.
pub opened_fits : (bits room bit : ℕ) → room ≤ 101 → room ≢ 0 → bit ≤ 1 → bits < 2 ^ (101 - room) → 2 * bits + bit < 2 ^ (101 - (room - 1))
opened_fits bits room bit le ne small lt =
    let e : 101 - (room - 1) ≡ suc (101 - room) = omega arith in
    let twice : 2 ^ (101 - (room - 1)) ≡ 2 * 2 ^ (101 - room) = ap (λ (n : ℕ). 2 ^ n) e ∙ pow-succ' 2 (101 - room) in
    omega arith

-- The bit of a kind is 0 or 1.
pub bit_small : (k : Kind) → bit_of k ≤ 1
bit_small Array = omega arith
bit_small Object = omega arith
