-- Which labels are on after a label change, and in which order.
use Rattle.std.proofs.Common.{◌≡◌, ◌∙◌, ◌||◌, ◌&&◌, refl, sym, ap, Bool, true, false, List, [], ◌∷◌, ℕ, not}
use Rattle.std.specs.BTreeMap.{insert_entry, is_at}
use Rattle.std.specs.List.{AllByRecursion, list_any}
use Rattle.std.specs.List.Sorted.{IsStrictlySortedBy}
use Rattle.std.specs.Str.{bytes_eq}
use Rattle.std.specs.Cmp.{both_ways}
use Rattle.std.specs.Cmp.Lexicographic.{nat_list_cmp_total}
use Rattle.std.specs.Ordering.{is_eq, match_ordering}
use Rattle.std.specs.declared.cmp.Ordering.{Ordering}
use Rattle.std.specs.declared.cmp.Ordering.TheVariants.{Less, Equal, Greater}
use Rattle.std.proofs.Math.Bool.{and_comm, or-false, or_assoc}
use Rattle.std.proofs.lemmas.List.Kept.{IsStrictlySortedBy-filter}
use Rattle.std.proofs.lemmas.Map.Made.{is_some-lookup}
use Rattle.std.proofs.lemmas.Map.Text.{is_eq-slice_cmp}
use Rattle.std.proofs.lemmas.Map.Views.{any-filter_same}
use Rattle.std.proofs.lemmas.Slice.Eq.{bytes_eq-Decides}
use Rattle.bug_ops.specs.Mentions.{is_among}
use Rattle.bug_ops.specs.Snapshots.{by_bytes, Marks, with_texts, is_marked, texts_of, changed}

-- ---- tests

same_of : (l x : List ℕ) → bytes_eq l x ≡ true → l ≡ x
same_of l x h = (bytes_eq-Decides l x).0 h

eq_back : (a b : List ℕ) → bytes_eq a b ≡ true → bytes_eq b a ≡ true
eq_back a b h = (bytes_eq-Decides b a).1 (sym (same_of a b h))

-- equality of texts goes both ways
pub eq_turned : (a b : List ℕ) → bytes_eq a b ≡ bytes_eq b a
eq_turned a b = both_ways (bytes_eq a b) (bytes_eq b a) (eq_back a b) (eq_back b a)

or_twice : (a b : Bool) → (a || b) ≡ (a || (a || b))
or_twice true b = refl
or_twice false b = refl

or_swap : (a b c : Bool) → (a || (b || c)) ≡ (b || (a || c))
or_swap true true c = refl
or_swap true false c = refl
or_swap false true c = refl
or_swap false false c = refl

any_same : {A : Type 0} (f g : A → Bool) → ((y : A) → f y ≡ g y) → (ys : List A) → list_any f ys ≡ list_any g ys
any_same f g h [] = refl
any_same f g h (y ∷ ys) = ap (λ b. b || list_any f ys) (h y) ∙ ap (λ b. g y || b) (any_same f g h ys)

-- ---- which texts are there

insert_there : (marks : Marks) (t x : List ℕ) → is_among (texts_of (insert_entry by_bytes marks t tt)) x ≡ (bytes_eq t x || is_among (texts_of marks) x)
insert_there [] t x = refl
insert_there (e ∷ es) t x = by (by_bytes t e.0) (is_eq-slice_cmp t e.0) (insert_there es t x)
  where
    by : (r : Ordering) → is_eq r ≡ bytes_eq t e.0 → is_among (texts_of (insert_entry by_bytes es t tt)) x ≡ (bytes_eq t x || is_among (texts_of es) x)
        → is_among (texts_of (match_ordering r ((t, tt) ∷ e ∷ es) ((e.0, tt) ∷ es) (e ∷ insert_entry by_bytes es t tt))) x ≡ (bytes_eq t x || (bytes_eq e.0 x || is_among (texts_of es) x))
    by Less is rest = refl
    by Equal is rest = or_twice (bytes_eq e.0 x) (is_among (texts_of es) x) ∙ ap (λ k. bytes_eq k x || (bytes_eq e.0 x || is_among (texts_of es) x)) (sym (same_of t e.0 (sym is)))
    by Greater is rest = ap (λ b. bytes_eq e.0 x || b) rest ∙ or_swap (bytes_eq e.0 x) (bytes_eq t x) (is_among (texts_of es) x)

texts_there : (marks : Marks) (ts : List (List ℕ)) (x : List ℕ) → is_among (texts_of (with_texts marks ts)) x ≡ (is_among ts x || is_among (texts_of marks) x)
texts_there marks [] x = refl
texts_there marks (t ∷ ts) x =
    texts_there (insert_entry by_bytes marks t tt) ts x
    ∙ ap (λ b. is_among ts x || b) (insert_there marks t x)
    ∙ or_swap (is_among ts x) (bytes_eq t x) (is_among (texts_of marks) x) ∙ sym (or_assoc (bytes_eq t x) (is_among ts x) (is_among (texts_of marks) x))

pub marked_is : (ts : List (List ℕ)) (x : List ℕ) → is_marked (with_texts [] ts) x ≡ is_among ts x
marked_is ts x =
    is_some-lookup (is_at (by_bytes x)) (with_texts [] ts)
    ∙ any_same (is_at (by_bytes x)) (λ l. bytes_eq l x) (λ k. is_eq-slice_cmp x k ∙ eq_turned x k) (texts_of (with_texts [] ts))
    ∙ texts_there [] ts x ∙ or-false (is_among ts x)

-- A label is on exactly where it is added or was on before, and is not removed.
pub label_change : (labels added removed : List (List ℕ)) (x : List ℕ) → is_among (changed labels added removed) x ≡ ((is_among added x || is_among labels x) && not (is_among removed x))
label_change labels added removed x =
    any-filter_same (λ l. bytes_eq l x) (λ t. not (is_marked (with_texts [] removed) t)) (not (is_among removed x))
    (λ y same. ap not (ap (is_marked (with_texts [] removed)) (same_of y x same) ∙ marked_is removed x)) (texts_of (with_texts (with_texts [] labels) added))
    ∙ and_comm (not (is_among removed x)) _
    ∙ ap (λ b. b && not (is_among removed x)) (
    texts_there (with_texts [] labels) added x
    ∙ ap (λ b. is_among added x || b) (texts_there [] labels x ∙ or-false (is_among labels x))
    )

-- ---- their order

all_keys : (P : List ℕ → Type 0) (marks : Marks) (t : List ℕ) → P t → AllByRecursion P (texts_of marks) → AllByRecursion P (texts_of (insert_entry by_bytes marks t tt))
all_keys P [] t p all = (p, tt)
all_keys P (e ∷ es) t p all = by (by_bytes t e.0) (all_keys P es t p all.1)
  where
    by : (r : Ordering) → AllByRecursion P (texts_of (insert_entry by_bytes es t tt)) → AllByRecursion P (texts_of (match_ordering r ((t, tt) ∷ e ∷ es) ((e.0, tt) ∷ es) (e ∷ insert_entry by_bytes es t tt)))
    by Less rest = (p, all)
    by Equal rest = all
    by Greater rest = (all.0, rest)

all_above : (t u : List ℕ) (us : List (List ℕ)) → by_bytes t u ≡ Less → AllByRecursion (λ v. by_bytes u v ≡ Less) us → AllByRecursion (λ v. by_bytes t v ≡ Less) us
all_above t u [] less all = tt
all_above t u (v ∷ us) less all = (nat_list_cmp_total.trans t u v less all.0, all_above t u us less all.1)

insert_ascends : (marks : Marks) (t : List ℕ) → IsStrictlySortedBy by_bytes (texts_of marks) → IsStrictlySortedBy by_bytes (texts_of (insert_entry by_bytes marks t tt))
unfolding IsStrictlySortedBy
insert_ascends [] t s = (tt, tt)
insert_ascends (e ∷ es) t s = by (by_bytes t e.0) refl (insert_ascends es t s.1)
  where
    by : (r : Ordering) → by_bytes t e.0 ≡ r → IsStrictlySortedBy by_bytes (texts_of (insert_entry by_bytes es t tt))
        → IsStrictlySortedBy by_bytes (texts_of (match_ordering r ((t, tt) ∷ e ∷ es) ((e.0, tt) ∷ es) (e ∷ insert_entry by_bytes es t tt)))
    by Less is rest = ((is, all_above t e.0 (texts_of es) is s.0), s)
    by Equal is rest = s
    by Greater is rest =
        let less : by_bytes e.0 t ≡ Less = (let r = nat_list_cmp_total.antisymm e.0 t in cc (is, r)) in
        (all_keys (λ v. by_bytes e.0 v ≡ Less) es t less s.0, rest)

texts_ascend : (marks : Marks) (ts : List (List ℕ)) → IsStrictlySortedBy by_bytes (texts_of marks) → IsStrictlySortedBy by_bytes (texts_of (with_texts marks ts))
texts_ascend marks [] s = s
texts_ascend marks (t ∷ ts) s = texts_ascend (insert_entry by_bytes marks t tt) ts (insert_ascends marks t s)

none_ascend : IsStrictlySortedBy by_bytes []
unfolding IsStrictlySortedBy
none_ascend = tt

-- The labels ascend after a change, whatever they were before.
pub changed_ascend : (labels added removed : List (List ℕ)) → IsStrictlySortedBy by_bytes (changed labels added removed)
changed_ascend labels added removed =
    IsStrictlySortedBy-filter by_bytes (λ t. not (is_marked (with_texts [] removed) t)) (texts_of (with_texts (with_texts [] labels) added))
    (texts_ascend (with_texts [] labels) added (texts_ascend [] labels none_ascend))
