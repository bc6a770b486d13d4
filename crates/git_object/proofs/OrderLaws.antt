-- Comparing keys byte by byte, and lists of entries behind references.
use Rattle.std.proofs.Common.{◌≡◌, ◌≢◌, ℕ, zero, suc, ◌+◌, ◌<◌, Bool, true, false, List, [], ◌∷◌, ◌++◌, length, get_or, take, drop, map, Some, None, refl, sym, ap, subst, ◌∙◌, arith, Bor, add-one, All, inl, inr, ◌⊎◌, cond}
use Rattle.std.specs.Prelude.{slice_get}
use Rattle.std.specs.List.{flat_map}
use Rattle.std.specs.Ordering.{nat_cmp, ordering_then}
use Rattle.std.specs.Cmp.Lexicographic.{slice_cmp}
use Rattle.std.specs.declared.cmp.Ordering.{Ordering}
use Rattle.std.specs.declared.cmp.Ordering.TheVariants.{Less, Equal, Greater}
use Rattle.std.proofs.lemmas.Bool.Decides.{nat_tests}
use Rattle.std.proofs.lemmas.List.{map_push}
use Rattle.std.proofs.lemmas.List.Elements.{All-push}
use Rattle.std.proofs.Math.Seq.{take-suc}
use Rattle.git_object.specs.declared.entry.Entry.{Entry}
use Rattle.std.specs.Cmp.{IsStrictWeakOrder}
use Rattle.std.specs.Ordering.{is_lt}
use Rattle.std.specs.List.Sorted.{IsPermutation, IsSortedBy, IsSortedByKey}
use Rattle.std.proofs.lemmas.Cmp.{nat_list_cmp_total}
use Rattle.std.proofs.lemmas.List.{length-map, get_or-map}
use Rattle.std.proofs.lemmas.List.Elements.{All-from_recursion, recursion_from_All}
use Rattle.std.proofs.lemmas.List.Sorted.{ranks_by, All-permutation}
use Rattle.git_object.specs.declared.tree.Tree.{Tree}
use Rattle.git_object.specs.Grammar.{entry_text, sort_key, AreDistinct, HasGoodNames, IsTreeText, IsEntry, IsEntryName, IsSortedForm}
use Rattle.gb_text.specs.Digits.{IsName}
use Rattle.git_object.proofs.CutLaws.{cut_again, cut_none}
use Rattle.git_object.proofs.DistinctLaws.{cmp, distinct_moves, equal_is_same, less_by}
use Rattle.std.specs.List.{Contains, AllByRecursion}
use Rattle.std.specs.List.Sorted.{IsStrictlySortedBy}
use Rattle.std.specs.Ordering.{ordering_reverse}
use Rattle.std.proofs.lemmas.List.Elements.{All-contains}
use Rattle.std.proofs.lemmas.List.Sorted.{IsPermutation-trans, IsPermutation-sym, Contains-permutation}
use Rattle.std.proofs.lemmas.Map.Keys.{sorted_from_all_adjacent}
use Rattle.std.proofs.lemmas.Option.{some_pair_parts}
use Rattle.std.specs.Cmp.Lexicographic.{on_texts}
use Rattle.git_object.specs.Reading.{cut_at}
use Rattle.git_object.specs.Grammar.{Lacks, is_folder}

drop_some : (ks : List ℕ) (i x : ℕ) → slice_get ks i ≡ Some x → drop i ks ≡ x ∷ drop (suc i) ks
drop_some [] i x e = absurd cc
drop_some (k ∷ ks) zero x e = (let same : k ≡ x = cc in ap (λ (v : ℕ). v ∷ ks) same)
drop_some (k ∷ ks) (suc i) x e = drop_some ks i x e

drop_none : (ks : List ℕ) (i : ℕ) → slice_get ks i ≡ None → drop i ks ≡ []
drop_none [] zero e = refl
drop_none [] (suc i) e = refl
drop_none (k ∷ ks) zero e = absurd cc
drop_none (k ∷ ks) (suc i) e = drop_none ks i e

same_cmp : (x : ℕ) → nat_cmp x x ≡ Equal
same_cmp x = grind (arith, nat_tests)

then_other : (o p : Ordering) → o ≢ Equal → ordering_then o p ≡ o
then_other Less p ne = refl
then_other Equal p ne = absurd (ne refl)
then_other Greater p ne = refl

equal_cmp : (x y : ℕ) → nat_cmp x y ≡ Equal → x ≡ y
equal_cmp x y e = grind (arith, nat_tests)

-- where the bytes at a place are the same, those behind decide
pub order_next : (a b : List ℕ) (i x y : ℕ) (all : Ordering) → slice_get a i ≡ Some x → slice_get b i ≡ Some y → x ≡ y → cmp (drop i a) (drop i b) ≡ all → cmp (drop (i + 1) a) (drop (i + 1) b) ≡ all
order_next a b i x y all p q same so_far =
    let one : cmp (drop i a) (drop i b) ≡ cmp (drop (suc i) a) (drop (suc i) b) = rw (drop_some a i x p, drop_some b i y q, same, same_cmp y) refl in
    rw add-one (sym one ∙ so_far)

-- where the bytes at a place differ, they decide
pub order_here : (a b : List ℕ) (i x y : ℕ) (all : Ordering) → slice_get a i ≡ Some x → slice_get b i ≡ Some y → (x ≡ y → ⊥) → cmp (drop i a) (drop i b) ≡ all → nat_cmp x y ≡ all
order_here a b i x y all p q ne so_far =
    let one : cmp (drop i a) (drop i b) ≡ nat_cmp x y = rw (drop_some a i x p, drop_some b i y q) (then_other (nat_cmp x y) (cmp (drop (suc i) a) (drop (suc i) b)) (λ e. ne (equal_cmp x y e))) in
    sym one ∙ so_far

-- where the second key ends first, it stands first
pub order_longer : (a b : List ℕ) (i x : ℕ) (all : Ordering) → slice_get a i ≡ Some x → slice_get b i ≡ None → cmp (drop i a) (drop i b) ≡ all → Greater ≡ all
order_longer a b i x all p q so_far =
    let one : cmp (drop i a) (drop i b) ≡ Greater = rw (drop_some a i x p, drop_none b i q) refl in
    sym one ∙ so_far

-- where the first key ends first, it stands first
pub order_shorter : (a b : List ℕ) (i y : ℕ) (all : Ordering) → slice_get a i ≡ None → slice_get b i ≡ Some y → cmp (drop i a) (drop i b) ≡ all → Less ≡ all
order_shorter a b i y all p q so_far =
    let one : cmp (drop i a) (drop i b) ≡ Less = rw (drop_none a i p, drop_some b i y q) refl in
    sym one ∙ so_far

-- where both keys end, they are equal
pub order_same : (a b : List ℕ) (i : ℕ) (all : Ordering) → slice_get a i ≡ None → slice_get b i ≡ None → cmp (drop i a) (drop i b) ≡ all → Equal ≡ all
order_same a b i all p q so_far =
    let one : cmp (drop i a) (drop i b) ≡ Equal = rw (drop_none a i p, drop_none b i q) refl in
    sym one ∙ so_far

-- a byte that is there lies within
pub get_within : (ks : List ℕ) (i x : ℕ) → slice_get ks i ≡ Some x → i < length ks
get_within [] i x e = absurd cc
get_within (k ∷ ks) zero x e = omega arith
get_within (k ∷ ks) (suc i) x e = (let inner = get_within ks i x e in omega arith)

-- ---- behind references

-- the entries that are lent
abbrev pub held : List (Bor Entry) → List Entry
held rs = map (λ r. r.now) rs

-- one entry more is lent
pub held_more : (rs : List (Bor Entry)) (i : ℕ) (r : Bor Entry) → i < length rs → r ≡ get_or rs i r → held (take (i + 1) rs) ≡ held (take i rs) ++ r.now ∷ []
held_more rs i r lt is =
    let taken : take (i + 1) rs ≡ take i rs ++ r ∷ [] = rw add-one (take-suc rs i r lt ∙ ap (λ (v : Bor Entry). take i rs ++ v ∷ []) (sym is)) in
    ap held taken ∙ map_push (λ (s : Bor Entry). s.now) (take i rs) r

-- one more entry names an object
pub objects_more : (es more : List Entry) (e : Entry) → more ≡ es ++ e ∷ [] → All (λ e. IsName e.object) es → IsName e.object → All (λ e. IsName e.object) more
objects_more es more e is all one = subst (λ (l : List Entry). All (λ e. IsName e.object) l) (sym is) (All-push (λ (e : Entry). IsName e.object) es e all one)

-- ---- sorting

-- the order of keys is one
pub key_ranks : IsStrictWeakOrder {X = Bor Entry} (λ x y. is_lt (cmp (sort_key x.now) (sort_key y.now)))
key_ranks = ranks_by nat_list_cmp_total (λ (r : Bor Entry). sort_key r.now)

-- entries that are lent in order are in order
pub sorted_held : (rs : List (Bor Entry)) → IsSortedBy (λ x y. is_lt (cmp (sort_key x.now) (sort_key y.now))) rs → IsSortedByKey sort_key (slice_cmp nat_cmp) (held rs)
sorted_held [] up = λ k d low lt. absurd (omega arith)
sorted_held (r ∷ rs) up = λ k d low lt.
    let len : length (held (r ∷ rs)) ≡ length (r ∷ rs) = simp length-map in
    let at : (i : ℕ) → i < length (held (r ∷ rs)) → get_or (held (r ∷ rs)) i d ≡ (get_or (r ∷ rs) i r).now = λ i within. get_or-map (λ (s : Bor Entry). s.now) (r ∷ rs) i r d (omega arith) in
    rw (at k (omega arith), at (k + 1) lt) (up k r low (omega arith))

-- the entries' texts in order are the text of the tree
pub written : (content : List ℕ) (t : Tree) (es : List Entry) → HasGoodNames t → IsPermutation t.entries es → All (λ e. IsName e.object) es → content ≡ flat_map entry_text es → IsTreeText content (record { entries = es })
written content t es has moved objects text =
    let names : All (λ e. IsEntryName e.name) es = All-permutation (λ (e : Entry). IsEntryName e.name) t.entries es moved (All-from_recursion (λ (e : Entry). IsEntryName e.name) t.entries has.each) in
    record { each = recursion_from_All IsEntry es (λ k d lt. record { name = names k d lt; object = objects k d lt }); distinct = distinct_moves t.entries es moved has.distinct; text = text }

-- ---- one order of distinct names

-- entries by the keys of the writer's order
abbrev by_key : Entry → Entry → Ordering
by_key a b = cmp (sort_key a) (sort_key b)

slash_off : (name : List ℕ) → Lacks 47 name → cut_at 47 (name ++ 47 ∷ []) ≡ Some (name, [])
slash_off name lacks = cut_again 47 name [] lacks

same_names : (m n : Bool) (a b : List ℕ) → Lacks 47 a → Lacks 47 b → cond m (a ++ 47 ∷ []) a ≡ cond n (b ++ 47 ∷ []) b → a ≡ b
same_names true true a b p q e = (some_pair_parts a b [] [] (sym (slash_off a p) ∙ ap (cut_at 47) e ∙ slash_off b q)).0
same_names true false a b p q e = (let other = sym (slash_off a p) ∙ ap (cut_at 47) e ∙ cut_none 47 b q in absurd cc)
same_names false true a b p q e = (let other = sym (cut_none 47 a p) ∙ ap (cut_at 47) e ∙ slash_off b q in absurd cc)
same_names false false a b p q e = e

keys_differ : (a b : Entry) → IsEntryName a.name → IsEntryName b.name → a.name ≢ b.name → sort_key a ≢ sort_key b
keys_differ a b p q ne = λ e. ne (same_names (is_folder a.mode) (is_folder b.mode) a.name b.name p.no_slash q.no_slash e)

strictly : (es : List Entry) → AllByRecursion IsEntry es → AreDistinct es → IsSortedByKey sort_key (slice_cmp nat_cmp) es → IsStrictlySortedBy by_key es
unfolding IsStrictlySortedBy
strictly [] each apart up = tt
strictly (d ∷ es) each apart up =
    let entries : List Entry = d ∷ es in
    let good : (k : ℕ) → k < length entries → IsEntry (get_or entries k d) = λ k lt. All-from_recursion IsEntry entries each k d lt in
    sorted_from_all_adjacent (on_texts sort_key) entries d
    (λ k lt. (let one : k < length entries = omega arith in
    less_by (sort_key (get_or entries k d)) (sort_key (get_or entries (k + 1) d)) (by_key (get_or entries k d) (get_or entries (k + 1) d)) refl (up k d (omega arith) lt)
    (keys_differ (get_or entries k d) (get_or entries (k + 1) d) (good k one).name (good (k + 1) lt).name (apart k (k + 1) d (omega arith) lt))))

cons_cases : {X : Type 0} (y : X) (ys : List X) (x : X) → Contains (y ∷ ys) x → (y ≡ x) ⊎ Contains ys x
cons_cases y ys x (zero, lt, e) = inl e
cons_cases y ys x (suc k, lt, e) = inr (k, omega arith, e)

contains_there : {X : Type 0} (y : X) (ys : List X) (x : X) → Contains ys x → Contains (y ∷ ys) x
contains_there y ys x (k, lt, e) = (suc k, omega arith, e)

none_contained : {X : Type 0} (x : X) → Contains [] x → ⊥
none_contained x (k, lt, e) = absurd (omega arith)

not_below_itself : (e : Entry) → by_key e e ≢ Less
not_below_itself e = equal_is_same (sort_key e) (sort_key e) refl

not_both_below : (e f : Entry) → by_key e f ≡ Less → by_key f e ≡ Less → ⊥
not_both_below e f p q = (let back = nat_list_cmp_total.antisymm (sort_key f) (sort_key e) ∙ ap ordering_reverse p in absurd cc)

below_all : (e : Entry) (es : List Entry) (x : Entry) → AllByRecursion (λ y. by_key e y ≡ Less) es → Contains es x → by_key e x ≡ Less
below_all e es x all has = All-contains (λ (y : Entry). by_key e y ≡ Less) es x (All-from_recursion (λ (y : Entry). by_key e y ≡ Less) es all) has

first_same : (e f : Entry) (es fs : List Entry) → AllByRecursion (λ y. by_key e y ≡ Less) es → AllByRecursion (λ y. by_key f y ≡ Less) fs → Contains (f ∷ fs) e → Contains (e ∷ es) f → e ≡ f
first_same e f es fs up also there back = elim (cons_cases f fs e there) [
  | inl same ↦ sym same
  | inr later ↦ elim (cons_cases e es f back) [
    | inl same ↦ same
    | inr after ↦ absurd (not_both_below e f (below_all e es f up after) (below_all f fs e also later))
  ]
]

rest_contained : (e f : Entry) (es fs : List Entry) → e ≡ f → AllByRecursion (λ y. by_key e y ≡ Less) es → ((x : Entry) → Contains (e ∷ es) x → Contains (f ∷ fs) x) → (x : Entry) → Contains es x → Contains fs x
rest_contained e f es fs same up within x has = elim (cons_cases f fs x (within x (contains_there e es x has))) [
  | inl first ↦ (let itself : e ≡ x = same ∙ first in absurd (not_below_itself e (subst (λ (y : Entry). by_key e y ≡ Less) (sym itself) (below_all e es x up has))))
  | inr later ↦ later
]

one_order : (es fs : List Entry) → IsStrictlySortedBy by_key es → IsStrictlySortedBy by_key fs → ((x : Entry) → Contains es x → Contains fs x) → ((x : Entry) → Contains fs x → Contains es x) → es ≡ fs
unfolding IsStrictlySortedBy
one_order [] [] up also within back = refl
one_order [] (f ∷ fs) up also within back = absurd (none_contained f (back f (zero, omega arith, refl)))
one_order (e ∷ es) [] up also within back = absurd (none_contained e (within e (zero, omega arith, refl)))
one_order (e ∷ es) (f ∷ fs) up also within back =
    let same : e ≡ f = first_same e f es fs up.0 also.0 (within e (zero, omega arith, refl)) (back f (zero, omega arith, refl)) in
    let others : es ≡ fs = one_order es fs up.1 also.1 (rest_contained e f es fs same up.0 within) (rest_contained f e fs es (sym same) also.0 back) in
    cc

-- a tree has one text in order
pub one_sorted_text : (t sorted other : Tree) (content rest : List ℕ) → IsSortedForm t sorted → IsSortedForm t other → IsTreeText content sorted → IsTreeText rest other → content ≡ rest
one_sorted_text t sorted other content rest form also is are =
    let moved : IsPermutation sorted.entries other.entries = IsPermutation-trans sorted.entries t.entries other.entries (IsPermutation-sym t.entries sorted.entries form.permutation) also.permutation in
    let back : IsPermutation other.entries sorted.entries = IsPermutation-sym sorted.entries other.entries moved in
    let same : sorted.entries ≡ other.entries = one_order sorted.entries other.entries (strictly sorted.entries is.each is.distinct form.order) (strictly other.entries are.each are.distinct also.order)
    (λ x has. Contains-permutation sorted.entries other.entries x moved has) (λ x has. Contains-permutation other.entries sorted.entries x back has) in
    is.text ∙ ap (flat_map entry_text) same ∙ sym are.text
