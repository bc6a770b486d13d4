-- A prefix of two ids in one, and its digits at the places of either.
use Rattle.std.proofs.Common.{◌≡◌, ℕ, zero, suc, ◌≤◌, Bool, true, false, List, [], ◌∷◌, length, take, refl, sym, ap, ◌∙◌, arith}
use Rattle.hex.specs.Hex.{encode_lower}
use Rattle.gb_text.specs.Digits.{IsId}
use Rattle.gb_text.specs.Prefix.{begins_with, digits_of, fits}
use Rattle.gb_text.specs.declared.id.Id.{Id}
use Rattle.gb_text.specs.declared.prefix.Prefix.{Prefix}
use Rattle.gb_text.proofs.PrefixLemmas.{begins_with-take, id_digits-sized, take-begins_with}
use Rattle.combined_id.specs.Combined.{combined_from, combined_of, digits_at, is_second}
use Rattle.combined_id.specs.Split.{first_digits, second_digits}
use Rattle.combined_id.proofs.CombinedLemmas.{first_place, second_place}
use Rattle.combined_id.proofs.FrontLemmas.{Suffice, counted, is_first, other, taken}

-- a text begins with digits
abbrev pub Begins : List ℕ → List ℕ → Type 0
Begins digits text = take (length digits) text ≡ digits

abbrev first_of : List ℕ → ℕ
first_of [] = 0
first_of (x ∷ xs) = x

abbrev rest_of : List ℕ → List ℕ
rest_of [] = []
rest_of (x ∷ xs) = xs

begins_head : (x t : ℕ) (xs ts : List ℕ) → Begins (x ∷ xs) (t ∷ ts) → t ≡ x
begins_head x t xs ts h = ap first_of h

begins_tail : (x t : ℕ) (xs ts : List ℕ) → Begins (x ∷ xs) (t ∷ ts) → Begins xs ts
begins_tail x t xs ts h = ap rest_of h

begins_cons : (x t : ℕ) (xs ts : List ℕ) → t ≡ x → Begins xs ts → Begins (x ∷ xs) (t ∷ ts)
begins_cons x t xs ts e h = λ i. e i ∷ h i

-- the digits begin the mixed text as their parts begin each of both
abbrev Agree : ℕ → ℕ → List ℕ → List ℕ → List ℕ → Type 0
Agree count place digits one two =
    (Begins digits (combined_from count place one two) → Begins (digits_at is_first place digits) one × Begins (digits_at is_second place digits) two)
    × (Begins (digits_at is_first place digits) one × Begins (digits_at is_second place digits) two → Begins digits (combined_from count place one two))

pub parts_agree : (count place : ℕ) (digits one two : List ℕ) → length digits ≤ count → Suffice is_first count place one → Suffice is_second count place two
    → Agree count place digits one two
parts_agree count place [] one two few first second = (λ h. (refl, refl), λ h. refl)
parts_agree zero place (x ∷ xs) one two few first second = absurd (omega arith)
parts_agree (suc count) place (x ∷ xs) one two few first second = decide (is_second place) refl one two first second (λ one two. parts_agree count (suc place) xs one two (omega arith))
  where
    decide : (b : Bool) → is_second place ≡ b → (one two : List ℕ) → Suffice is_first (suc count) place one → Suffice is_second (suc count) place two
        → ((one two : List ℕ) → Suffice is_first count (suc place) one → Suffice is_second count (suc place) two → Agree count (suc place) xs one two)
        → Agree (suc count) place (x ∷ xs) one two
    decide true h one [] first second more = absurd (let n = counted is_second count place true h in omega (arith, n, second))
    decide true h one (t ∷ ts) first second more =
        let n = counted is_second count place true h in
        let m = counted is_first count place false (other place true h) in
        let next = more one ts (omega (arith, m, first)) (omega (arith, n, second)) in
        rw (second_place count place one (t ∷ ts) h, taken is_first place x xs false (other place true h), taken is_second place x xs true h) (
          λ b. let both = next.0 (begins_tail x t xs (combined_from count (suc place) one ts) b) in (both.0, begins_cons x t (digits_at is_second (suc place) xs) ts (begins_head x t xs (combined_from count (suc place) one ts) b) both.1),
          λ b. begins_cons x t xs (combined_from count (suc place) one ts) (begins_head x t (digits_at is_second (suc place) xs) ts b.1) (next.1 (b.0, begins_tail x t (digits_at is_second (suc place) xs) ts b.1)),
        )
    decide false h [] two first second more = absurd (let m = counted is_first count place true (other place false h) in omega (arith, m, first))
    decide false h (t ∷ ts) two first second more =
        let n = counted is_second count place false h in
        let m = counted is_first count place true (other place false h) in
        let next = more ts two (omega (arith, m, first)) (omega (arith, n, second)) in
        rw (first_place count place (t ∷ ts) two h, taken is_first place x xs true (other place false h), taken is_second place x xs false h) (
          λ b. let both = next.0 (begins_tail x t xs (combined_from count (suc place) ts two) b) in (begins_cons x t (digits_at is_first (suc place) xs) ts (begins_head x t xs (combined_from count (suc place) ts two) b) both.0, both.1),
          λ b. begins_cons x t xs (combined_from count (suc place) ts two) (begins_head x t (digits_at is_first (suc place) xs) ts b.0) (next.1 (begins_tail x t (digits_at is_first (suc place) xs) ts b.0, b.1)),
        )

-- a prefix has at most 64 digits
few_digits : (prefix : Prefix) → length (digits_of prefix) ≤ 64
few_digits prefix = let good = prefix.is_prefix in grind (arith, good)

pub parts_fit : (prefix : Prefix) (bug own both : Id) → IsId bug → IsId own
    → encode_lower both.bytes ≡ combined_of (encode_lower bug.bytes) (encode_lower own.bytes)
    → (fits prefix both ≡ true → (begins_with (first_digits prefix) (encode_lower bug.bytes) ≡ true) × (begins_with (second_digits prefix) (encode_lower own.bytes) ≡ true))
    × ((begins_with (first_digits prefix) (encode_lower bug.bytes) ≡ true) × (begins_with (second_digits prefix) (encode_lower own.bytes) ≡ true) → fits prefix both ≡ true)
parts_fit prefix bug own both is_bug is_own e =
    let one = encode_lower bug.bytes in
    let two = encode_lower own.bytes in
    let digits = digits_of prefix in
    let sized = id_digits-sized bug is_bug in
    let sized_own = id_digits-sized own is_own in
    let agree = parts_agree 64 0 digits one two (few_digits prefix) (omega (arith, sized)) (omega (arith, sized_own)) in (
      λ h.
          let parts = agree.0 (ap (take (length digits)) (sym e) ∙ begins_with-take digits (encode_lower both.bytes) h) in
          (take-begins_with (first_digits prefix) one parts.0, take-begins_with (second_digits prefix) two parts.1),
      λ h. take-begins_with digits (encode_lower both.bytes)
          (ap (take (length digits)) e ∙ agree.1 (begins_with-take (first_digits prefix) one h.0, begins_with-take (second_digits prefix) two h.1)),
    )
