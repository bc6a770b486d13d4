-- The digits at the places of either of two ids are a front of it.
use Rattle.std.proofs.Common.{◌≡◌, ℕ, zero, suc, ◌≤◌, Bool, true, false, List, [], ◌∷◌, length, take, refl, ap, arith, ◌∙◌}
use Rattle.std.specs.Prelude.{not, if◌then◌else◌}
use Rattle.combined_id.specs.Combined.{combined_from, combined_of, digits_at, is_second}
use Rattle.combined_id.proofs.CombinedLemmas.{first_place, second_place}

-- the place is the primary's
abbrev pub is_first : ℕ → Bool
is_first place = not (is_second place)

-- how many of so many places a predicate takes, the first of them at `place`
abbrev pub count_at : (ℕ → Bool) → ℕ → ℕ → ℕ
count_at takes zero place = zero
count_at takes (suc count) place = if takes place then suc (count_at takes count (suc place)) else count_at takes count (suc place)

-- a front of a list has enough digits for the places of a predicate
abbrev pub Suffice : (ℕ → Bool) → ℕ → ℕ → List ℕ → Type 0
Suffice takes count place digits = count_at takes count place ≤ length digits

pub counted : (takes : ℕ → Bool) (count place : ℕ) (b : Bool) → takes place ≡ b
    → count_at takes (suc count) place ≡ (if b then suc (count_at takes count (suc place)) else count_at takes count (suc place))
counted takes count place b h = rw h refl

pub taken : (takes : ℕ → Bool) (place digit : ℕ) (digits : List ℕ) (b : Bool) → takes place ≡ b
    → digits_at takes place (digit ∷ digits) ≡ (if b then digit ∷ digits_at takes (suc place) digits else digits_at takes (suc place) digits)
taken takes place digit digits b h = rw h refl

pub other : (place : ℕ) (b : Bool) → is_second place ≡ b → is_first place ≡ not b
other place b h = ap not h

-- both lists give their digits in order
pub fronts : (count place : ℕ) (one two : List ℕ) → Suffice is_first count place one → Suffice is_second count place two
    → (digits_at is_first place (combined_from count place one two) ≡ take (count_at is_first count place) one)
    × (digits_at is_second place (combined_from count place one two) ≡ take (count_at is_second count place) two)
unfolding combined_from
fronts zero place one two first second = (refl, refl)
fronts (suc count) place one two first second = decide (is_second place) refl one two first second (fronts count (suc place))
  where
    decide : (b : Bool) → is_second place ≡ b → (one two : List ℕ) → Suffice is_first (suc count) place one → Suffice is_second (suc count) place two
        → ((one two : List ℕ) → Suffice is_first count (suc place) one → Suffice is_second count (suc place) two
        → (digits_at is_first (suc place) (combined_from count (suc place) one two) ≡ take (count_at is_first count (suc place)) one)
        × (digits_at is_second (suc place) (combined_from count (suc place) one two) ≡ take (count_at is_second count (suc place)) two))
        → (digits_at is_first place (combined_from (suc count) place one two) ≡ take (count_at is_first (suc count) place) one)
        × (digits_at is_second place (combined_from (suc count) place one two) ≡ take (count_at is_second (suc count) place) two)
    decide true h one [] first second more = absurd (let n = counted is_second count place true h in omega (arith, n, second))
    decide true h one (d ∷ ds) first second more =
        let n = counted is_second count place true h in
        let m = counted is_first count place false (other place true h) in
        let next = more one ds (omega (arith, m, first)) (omega (arith, n, second)) in
        rw (second_place count place one (d ∷ ds) h, n, m) (
          taken is_first place d (combined_from count (suc place) one ds) false (other place true h) ∙ next.0,
          taken is_second place d (combined_from count (suc place) one ds) true h ∙ ap (λ xs. d ∷ xs) next.1,
        )
    decide false h [] two first second more = absurd (let m = counted is_first count place true (other place false h) in omega (arith, m, first))
    decide false h (d ∷ ds) two first second more =
        let n = counted is_second count place false h in
        let m = counted is_first count place true (other place false h) in
        let next = more ds two (omega (arith, m, first)) (omega (arith, n, second)) in
        rw (first_place count place (d ∷ ds) two h, n, m) (
          taken is_first place d (combined_from count (suc place) ds two) true (other place false h) ∙ ap (λ xs. d ∷ xs) next.0,
          taken is_second place d (combined_from count (suc place) ds two) false h ∙ next.1,
        )

-- Of 64 places 50 are the primary's.
pub front_of_first : (one two : List ℕ) → length one ≡ 64 → length two ≡ 64 → digits_at is_first 0 (combined_of one two) ≡ take 50 one
front_of_first one two first second = (fronts 64 0 one two (omega (arith, first)) (omega (arith, second))).0

-- Of 64 places 14 are the secondary's.
pub front_of_second : (one two : List ℕ) → length one ≡ 64 → length two ≡ 64 → digits_at is_second 0 (combined_of one two) ≡ take 14 two
front_of_second one two first second = (fronts 64 0 one two (omega (arith, first)) (omega (arith, second))).1
