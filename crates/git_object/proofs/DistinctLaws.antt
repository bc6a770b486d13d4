-- Names that are sorted and differ from their neighbours all differ.
use Rattle.std.proofs.lemmas.Bool.{and_parts}
use Rattle.std.proofs.Common.{◌≡◌, ◌≢◌, ℕ, ◌+◌, ◌-◌, ◌<◌, ◌≤◌, Bool, true, false, List, [], ◌∷◌, length, get_or, map, refl, sym, ap, ◌∙◌, arith, Bor}
use Rattle.std.specs.Prelude.{IsTrue, ◌↔◌, not}
use Rattle.std.specs.List.{AllAdjacentBelow, AllByRecursion, IsDistinct, list_all}
use Rattle.std.specs.List.Sorted.{IsPermutation, IsSortedBy, IsStrictlySortedBy}
use Rattle.std.specs.Str.{bytes_eq}
use Rattle.std.specs.Ordering.{nat_cmp, is_lt, is_eq, ordering_reverse}
use Rattle.std.specs.Cmp.Lexicographic.{slice_cmp, on_texts}
use Rattle.std.specs.declared.cmp.Ordering.{Ordering}
use Rattle.std.specs.declared.cmp.Ordering.TheVariants.{Less, Equal, Greater}
use Rattle.std.proofs.lemmas.Cmp.{nat_list_cmp_total}
use Rattle.std.proofs.lemmas.Slice.Eq.{bytes_eq-Decides}
use Rattle.std.proofs.lemmas.List.{length-map, get_or-map, get_or_default}
use Rattle.std.proofs.lemmas.List.Sorted.{IsPermutation-sym, all_adjacent_more}
use Rattle.std.proofs.lemmas.Map.Keys.{IsDistinct-from_apart, IsDistinct-IsPermutation, apart_from_distinct, sorted_from_all_adjacent, Less-from_sorted}
use Rattle.std.proofs.lemmas.Map.Text.{is_eq-slice_cmp}
use Rattle.git_object.specs.declared.entry.Entry.{Entry}
use Rattle.git_object.specs.Grammar.{AreDistinct}
use Rattle.git_object.specs.Reading.{are_distinct}
use Rattle.std.proofs.lemmas.Bool.{not-true}

-- the order of names, by their bytes
abbrev pub cmp : List ℕ → List ℕ → Ordering
cmp xs ys = slice_cmp nat_cmp xs ys

same_flip : (x y : List ℕ) (b c : Bool) → bytes_eq x y ≡ b → bytes_eq y x ≡ c → b ≡ c
same_flip x y true true p q = refl
same_flip x y false false p q = refl
same_flip x y true false p q = (let t = (bytes_eq-Decides y x).1 (sym ((bytes_eq-Decides x y).0 p)) in absurd cc)
same_flip x y false true p q = (let t = (bytes_eq-Decides x y).1 (sym ((bytes_eq-Decides y x).0 q)) in absurd cc)

abbrev same_name : Entry → Entry → Bool
same_name a b = bytes_eq a.name b.name

test_differs : (x y : List ℕ) (b : Bool) → bytes_eq x y ≡ b → x ≢ y → bytes_eq x y ≡ false
test_differs x y false p ne = p
test_differs x y true p ne = absurd (ne ((bytes_eq-Decides x y).0 p))

-- names that the test tells apart differ
pub differs : (x y : List ℕ) → bytes_eq x y ≡ false → x ≢ y
differs x y p = λ same. (let t = (bytes_eq-Decides x y).1 same in absurd cc)

-- the order of entries does not matter to their names being distinct
pub distinct_moves : (xs ys : List Entry) → IsPermutation xs ys → AreDistinct xs → AreDistinct ys
distinct_moves xs ys moved apart =
    let before : IsDistinct same_name xs = IsDistinct-from_apart same_name xs (λ i j d lt in'. test_differs (get_or xs i d).name (get_or xs j d).name (same_name (get_or xs i d) (get_or xs j d)) refl (apart i j d lt in')) in
    let after : IsDistinct same_name ys = IsDistinct-IsPermutation same_name (λ a b. same_flip a.name b.name (same_name a b) (same_name b a) refl refl) xs ys moved before in
    λ i j d lt in'. differs (get_or ys i d).name (get_or ys j d).name (apart_from_distinct same_name ys i j d after lt in')

-- ---- the test on entries

distinct_step : (e : Entry) (es : List Entry) → list_all (λ other. not (bytes_eq e.name other.name)) es ≡ true → AllByRecursion (λ other. same_name e other ≡ false) es
distinct_step e [] t = tt
distinct_step e (o ∷ os) t =
    let p = and_parts (not (same_name e o)) (list_all (λ other. not (bytes_eq e.name other.name)) os) t in
    (not-true (same_name e o) p.0, distinct_step e os p.1)

distinct_step_again : (e : Entry) (es : List Entry) → AllByRecursion (λ other. same_name e other ≡ false) es → list_all (λ other. not (bytes_eq e.name other.name)) es ≡ true
distinct_step_again e [] all = refl
distinct_step_again e (o ∷ os) all = (let here = all.0 in rw here (distinct_step_again e os all.1))

tested : (es : List Entry) → are_distinct es ≡ true → IsDistinct same_name es
unfolding IsDistinct
tested [] t = tt
tested (e ∷ es) t =
    let p = and_parts (list_all (λ other. not (bytes_eq e.name other.name)) es) (are_distinct es) t in
    (distinct_step e es p.0, tested es p.1)

tested_again : (es : List Entry) → IsDistinct same_name es → are_distinct es ≡ true
unfolding IsDistinct
tested_again [] all = refl
tested_again (e ∷ es) all = rw (distinct_step_again e es all.0) (tested_again es all.1)

-- what the test finds distinct is
pub distinct_are : (es : List Entry) → are_distinct es ≡ true → AreDistinct es
distinct_are es t = λ i j d lt within. differs (get_or es i d).name (get_or es j d).name (apart_from_distinct same_name es i j d (tested es t) lt within)

-- the test finds distinct what is
pub are_distinct_again : (es : List Entry) → AreDistinct es → are_distinct es ≡ true
are_distinct_again es apart = tested_again es
    (IsDistinct-from_apart same_name es (λ i j d lt within. test_differs (get_or es i d).name (get_or es j d).name (same_name (get_or es i d) (get_or es j d)) refl (apart i j d lt within)))

answers_test : (es : List Entry) (b t : Bool) → are_distinct es ≡ t → IsTrue b ↔ AreDistinct es → b ≡ t
answers_test es true true e says = refl
answers_test es false false e says = refl
answers_test es true false e says = (let t = are_distinct_again es (says.0 refl) in absurd cc)
answers_test es false true e says = (let t = says.1 (distinct_are es e) in absurd cc)

-- ---- the sorted names

abbrev Ref : Type 0
Ref = Bor (List ℕ)

abbrev same : Ref → Ref → Bool
same x y = bytes_eq x.now y.now

same_is_equal : (x y : List ℕ) → cmp x y ≡ Equal → x ≡ y
same_is_equal x y e = (bytes_eq-Decides x y).0 (sym (is_eq-slice_cmp x y) ∙ ap is_eq e)

-- no name stands before itself
pub equal_is_same : (x y : List ℕ) → x ≡ y → cmp x y ≢ Less
equal_is_same x y e less = (let t = (bytes_eq-Decides x y).1 e in let f = sym (is_eq-slice_cmp x y) ∙ ap is_eq less in absurd cc)

-- of two names that differ, one stands first
pub less_by : (x y : List ℕ) (o : Ordering) → cmp x y ≡ o → is_lt (cmp y x) ≡ false → x ≢ y → o ≡ Less
less_by x y Less e up ne = refl
less_by x y Equal e up ne = absurd (ne (same_is_equal x y e))
less_by x y Greater e up ne = (let back = nat_list_cmp_total.antisymm y x ∙ ap ordering_reverse e in let t = sym up ∙ ap is_lt back in absurd cc)

rise : (rs : List Ref) → IsSortedBy (λ x y. is_lt (cmp x.now y.now)) rs → AllAdjacentBelow (λ x y. x.now ≢ y.now) rs (length rs) → IsDistinct same rs
rise rs up apart =
    let d : Ref = record { ref_ptr = (0, 0); now = [] } in
    let strict : IsStrictlySortedBy (λ (x y : Ref). cmp x.now y.now) rs = sorted_from_all_adjacent (on_texts (λ (r : Ref). r.now)) rs d (λ k lt. less_by (get_or rs k d).now (get_or rs (k + 1) d).now (cmp (get_or rs k d).now (get_or rs (k + 1) d).now) refl (up k d (omega arith) lt) (apart k d lt)) in
    IsDistinct-from_apart same rs (λ i j e lt within. test_differs (get_or rs i e).now (get_or rs j e).now (same (get_or rs i e) (get_or rs j e)) refl
    (λ eq. equal_is_same (get_or rs i e).now (get_or rs j e).now eq (Less-from_sorted (λ (x y : Ref). cmp x.now y.now) rs i j e strict lt within)))

flips : (x y : Ref) → same x y ≡ same y x
flips x y = same_flip x.now y.now (same x y) (same y x) refl refl

named : (qs : List Ref) (es : List Entry) (i : ℕ) (q : Ref) (d : Entry) → map (λ r. r.now) qs ≡ map (λ e. e.name) es → i < length es → i < length qs → (get_or qs i q).now ≡ (get_or es i d).name
named qs es i q d is lt in' =
    sym (get_or-map (λ (r : Ref). r.now) qs i q [] in') ∙ ap (λ (l : List (List ℕ)). get_or l i []) is ∙ get_or-map (λ (e : Entry). e.name) es i d [] lt

same_length : (qs : List Ref) (es : List Entry) → map (λ r. r.now) qs ≡ map (λ e. e.name) es → length qs ≡ length es
same_length qs es is = sym (length-map qs (λ (r : Ref). r.now)) ∙ ap length is ∙ length-map es (λ (e : Entry). e.name)

from_refs : (qs : List Ref) (es : List Entry) → map (λ r. r.now) qs ≡ map (λ e. e.name) es → IsDistinct same qs → AreDistinct es
from_refs qs es is apart i j d lt within =
    let q : Ref = record { ref_ptr = (0, 0); now = [] } in
    let len = same_length qs es is in
    let ne = differs (get_or qs i q).now (get_or qs j q).now (apart_from_distinct same qs i j q apart lt (omega arith)) in
    let one = named qs es i q d is (omega arith) (omega arith) in
    let two = named qs es j q d is within (omega arith) in
    λ eq. ne (one ∙ eq ∙ sym two)

to_refs : (qs : List Ref) (es : List Entry) → map (λ r. r.now) qs ≡ map (λ e. e.name) es → AreDistinct es → IsDistinct same qs
to_refs qs [] is apart = (let len = same_length qs [] is in IsDistinct-from_apart same qs (λ i j q lt within. absurd (omega arith)))
to_refs qs (d ∷ es) is apart =
    let len = same_length qs (d ∷ es) is in
    IsDistinct-from_apart same qs (λ i j q lt within.
    let one = named qs (d ∷ es) i q d is (omega arith) (omega arith) in
    let two = named qs (d ∷ es) j q d is (omega arith) within in
    test_differs (get_or qs i q).now (get_or qs j q).now (same (get_or qs i q) (get_or qs j q)) refl (λ eq. apart i j d lt (omega arith) (sym one ∙ eq ∙ two)))

next_place : (k : ℕ) → k < k + 1
next_place k = omega arith

decided_by : (es : List Entry) (qs rs : List Ref) (b : Bool) → map (λ r. r.now) qs ≡ map (λ e. e.name) es → IsPermutation qs rs → IsSortedBy (λ x y. is_lt (cmp x.now y.now)) rs
    → IsTrue b ↔ AllAdjacentBelow (λ x y. x.now ≢ y.now) rs (length rs) → IsTrue b ↔ AreDistinct es
decided_by es qs rs b is moved up says = (
  λ t. from_refs qs es is (IsDistinct-IsPermutation same flips rs qs (IsPermutation-sym qs rs moved) (rise rs up (says.0 t))),
  λ apart. (let sorted_apart : IsDistinct same rs = IsDistinct-IsPermutation same flips qs rs moved (to_refs qs es is apart) in
      says.1 (λ k d lt. differs (get_or rs k d).now (get_or rs (k + 1) d).now (apart_from_distinct same rs k (k + 1) d sorted_apart (next_place k) lt))),
)

-- neighbours differ, one pair more
pub neighbours_more : (rs : List Ref) (i : ℕ) (d : Ref) → 1 ≤ i → i < length rs → false ≡ bytes_eq (get_or rs (i - 1) d).now (get_or rs i d).now → AllAdjacentBelow (λ x y. x.now ≢ y.now) rs i → AllAdjacentBelow (λ x y. x.now ≢ y.now) rs (i + 1)
neighbours_more rs i d some lt e below = all_adjacent_more rs (λ x y. x.now ≢ y.now) i (omega arith) below
    (λ f. (let first : get_or rs (i - 1) f ≡ get_or rs (i - 1) d = get_or_default rs (i - 1) f d (omega arith) in
    let second : get_or rs i f ≡ get_or rs i d = get_or_default rs i f d lt in
    rw (first, second) (differs (get_or rs (i - 1) d).now (get_or rs i d).now (sym e))))

-- sorted names are distinct where neighbours differ
pub decided : (es : List Entry) (qs rs : List Ref) (b : Bool) → map (λ r. r.now) qs ≡ map (λ e. e.name) es → IsPermutation qs rs → IsSortedBy (λ x y. is_lt (cmp x.now y.now)) rs
    → IsTrue b ↔ AllAdjacentBelow (λ x y. x.now ≢ y.now) rs (length rs) → b ≡ are_distinct es
decided es qs rs b is moved up says = answers_test es b (are_distinct es) refl (decided_by es qs rs b is moved up says)
