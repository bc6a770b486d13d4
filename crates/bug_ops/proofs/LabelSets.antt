-- Labels that are put into a set and taken out of it, one after the other.
use Rattle.std.proofs.Common.{◌≡◌, ◌∙◌, ◌||◌, ◌&&◌, ◌++◌, ◌+◌, ◌<◌, refl, sym, ap, subst, cond, Bool, true, false, ℕ, suc, List, [], ◌∷◌, drop, length, append_assoc, append-nil, arith}
use Rattle.std.specs.Prelude.{not, slice_index_or}
use Rattle.std.specs.BTreeMap.{insert_entry, is_at}
use Rattle.std.specs.BTreeSet.{insert_key}
use Rattle.std.specs.Set.{remove_key}
use Rattle.std.specs.List.{AllByRecursion, filter}
use Rattle.std.specs.List.Sorted.{IsStrictlySortedBy}
use Rattle.std.specs.Cmp.Lexicographic.{nat_list_cmp_total}
use Rattle.std.specs.Ordering.{is_eq, match_ordering}
use Rattle.std.specs.Str.{bytes_eq}
use Rattle.std.specs.declared.cmp.Ordering.{Ordering}
use Rattle.std.specs.declared.cmp.Ordering.TheVariants.{Less, Equal, Greater}
use Rattle.std.proofs.Math.Seq.{drop-cons}
use Rattle.std.proofs.lemmas.List.Elements.{filter_agree}
use Rattle.std.proofs.lemmas.Map.Text.{is_eq-slice_cmp}
use Rattle.bug_ops.specs.Mentions.{is_among}
use Rattle.bug_ops.specs.Folds.{marks_of, without_each}
use Rattle.bug_ops.specs.Snapshots.{by_bytes, with_texts, is_marked, texts_of, changed}
use Rattle.bug_ops.proofs.KeyOrder.{greater_back, less_back, equal_back, put_last}
use Rattle.bug_ops.proofs.LabelLaws.{eq_turned, marked_is}

-- ---- a label that is put on

-- A label that is put into a set is put among the marks.
marks_put : (ks : List (List ℕ)) (t : List ℕ) → marks_of (insert_key by_bytes ks t) ≡ insert_entry by_bytes (marks_of ks) t tt
marks_put [] t = refl
marks_put (x ∷ xs) t = by (by_bytes t x) (marks_put xs t)
  where
    by : (r : Ordering) → marks_of (insert_key by_bytes xs t) ≡ insert_entry by_bytes (marks_of xs) t tt
        → marks_of (match_ordering r (t ∷ x ∷ xs) (x ∷ xs) (x ∷ insert_key by_bytes xs t)) ≡ match_ordering r ((t, tt) ∷ (x, tt) ∷ marks_of xs) ((x, tt) ∷ marks_of xs) ((x, tt) ∷ insert_entry by_bytes (marks_of xs) t tt)
    by Less rest = refl
    by Equal rest = refl
    by Greater rest = ap (λ ms. (x, tt) ∷ ms) rest

-- One label more is put on.
pub one_more_on : (before after added : List (List ℕ)) (i : ℕ) (label copy : List ℕ) → i < length added → label ≡ slice_index_or added i label → copy ≡ label → after ≡ insert_key by_bytes before copy
    → with_texts (marks_of before) (drop i added) ≡ with_texts (marks_of after) (drop (i + 1) added)
one_more_on before after added i label copy low is same put =
    let next : suc i ≡ i + 1 = omega arith in
    ap (with_texts (marks_of before)) (drop-cons added i label low ∙ ap (λ l. l ∷ drop (suc i) added) (sym is) ∙ ap (λ n. label ∷ drop n added) next)
    ∙ ap (λ ms. with_texts ms (drop (i + 1) added)) (sym (ap marks_of (put ∙ ap (insert_key by_bytes before) same) ∙ marks_put before label))

-- ---- a label that is taken off

is_other : (x k : List ℕ) (r : Ordering) → by_bytes x k ≡ r → is_eq r ≡ false → not (bytes_eq x k) ≡ true
is_other x k r is other = ap not (sym (is_eq-slice_cmp x k) ∙ ap is_eq is ∙ other)

is_same : (x k : List ℕ) → by_bytes x k ≡ Equal → not (bytes_eq x k) ≡ false
is_same x k is = ap not (sym (is_eq-slice_cmp x k) ∙ ap is_eq is)

keep_first : (p : List ℕ → Bool) (x : List ℕ) (xs ys : List (List ℕ)) → p x ≡ true → filter p xs ≡ ys → filter p (x ∷ xs) ≡ x ∷ ys
keep_first p x xs ys pass rest = ap (λ b. cond b (x ∷ filter p xs) (filter p xs)) pass ∙ ap (λ zs. x ∷ zs) rest

above_stay : (x k : List ℕ) (xs : List (List ℕ)) → by_bytes x k ≡ Equal → AllByRecursion (λ y. by_bytes x y ≡ Less) xs → filter (λ t. not (bytes_eq t k)) xs ≡ xs
above_stay x k [] is all = refl
above_stay x k (y ∷ ys) is all =
    let e : by_bytes y k ≡ Greater = greater_back k y (let same = nat_list_cmp_total.congr x k y is in let less = all.0 in cc (same, less)) in
    keep_first (λ t. not (bytes_eq t k)) y ys ys (is_other y k Greater e refl) (above_stay x k ys is all.1)

-- What is taken out of a set is all that is equal to the label.
key_off : (xs : List (List ℕ)) (k : List ℕ) → IsStrictlySortedBy by_bytes xs → remove_key (is_at (by_bytes k)) xs ≡ filter (λ t. not (bytes_eq t k)) xs
unfolding IsStrictlySortedBy
key_off [] k s = refl
key_off (x ∷ xs) k s = by (by_bytes k x) refl (key_off xs k s.1)
  where
    by : (r : Ordering) → by_bytes k x ≡ r → remove_key (is_at (by_bytes k)) xs ≡ filter (λ t. not (bytes_eq t k)) xs
        → cond (is_eq r) xs (x ∷ remove_key (is_at (by_bytes k)) xs) ≡ filter (λ t. not (bytes_eq t k)) (x ∷ xs)
    by Less is rest = sym (keep_first (λ t. not (bytes_eq t k)) x xs (remove_key (is_at (by_bytes k)) xs) (is_other x k Greater (greater_back k x is) refl) (sym rest))
    by Equal is rest =
        let e = equal_back k x is in
        sym (ap (λ b. cond b (x ∷ filter (λ t. not (bytes_eq t k)) xs) (filter (λ t. not (bytes_eq t k)) xs)) (is_same x k e) ∙ above_stay x k xs e s.0)
    by Greater is rest = sym (keep_first (λ t. not (bytes_eq t k)) x xs (remove_key (is_at (by_bytes k)) xs) (is_other x k Less (less_back k x is) refl) (sym rest))

-- One label more is taken off.
pub one_more_off : (before after removed : List (List ℕ)) (i : ℕ) (label : List ℕ) → i < length removed → label ≡ slice_index_or removed i label
    → IsStrictlySortedBy by_bytes before → after ≡ remove_key (is_at (by_bytes label)) before
    → without_each before (drop i removed) ≡ without_each after (drop (i + 1) removed)
one_more_off before after removed i label low is s off =
    let next : suc i ≡ i + 1 = omega arith in
    ap (without_each before) (drop-cons removed i label low ∙ ap (λ l. l ∷ drop (suc i) removed) (sym is) ∙ ap (λ n. label ∷ drop n removed) next)
    ∙ ap (λ ts. without_each ts (drop (i + 1) removed)) (sym (off ∙ key_off before label s))

-- ---- all that are put on and taken off

fuse : (p q s : List ℕ → Bool) → ((t : List ℕ) → s t ≡ (q t && p t)) → (ts : List (List ℕ)) → filter p (filter q ts) ≡ filter s ts
fuse p q s is [] = refl
fuse p q s is (t ∷ ts) = by (q t) (p t) (fuse p q s is ts) ∙ ap (λ b. cond b (t ∷ filter s ts) (filter s ts)) (sym (is t))
  where
    first : (b : Bool) → filter p (cond b (t ∷ filter q ts) (filter q ts)) ≡ cond b (cond (p t) (t ∷ filter p (filter q ts)) (filter p (filter q ts))) (filter p (filter q ts))
    first true = refl
    first false = refl

    both : (a b : Bool) (us vs : List (List ℕ)) → us ≡ vs → cond a (cond b (t ∷ us) us) us ≡ cond (a && b) (t ∷ vs) vs
    both true true us vs e = ap (λ ws. t ∷ ws) e
    both true false us vs e = e
    both false b us vs e = e

    by : (a b : Bool) → filter p (filter q ts) ≡ filter s ts → filter p (cond (q t) (t ∷ filter q ts) (filter q ts)) ≡ cond (q t && p t) (t ∷ filter s ts) (filter s ts)
    by a b rest = first (q t) ∙ both (q t) (p t) _ _ rest

filter_all : (ts : List (List ℕ)) → filter (λ t. true) ts ≡ ts
filter_all [] = refl
filter_all (t ∷ ts) = ap (λ us. t ∷ us) (filter_all ts)

neither : (a b : Bool) → not (a || b) ≡ (not a && not b)
neither true b = refl
neither false b = refl

-- what is left without some texts, one after the other, is what is not among them
without_is : (ts rs : List (List ℕ)) → without_each ts rs ≡ filter (λ t. not (is_among rs t)) ts
without_is ts [] = sym (filter_all ts)
without_is ts (r ∷ rs) =
    without_is (filter (λ t. not (bytes_eq t r)) ts) rs
    ∙ fuse (λ t. not (is_among rs t)) (λ t. not (bytes_eq t r)) (λ t. not (is_among (r ∷ rs) t)) (λ t. neither (bytes_eq r t) (is_among rs t) ∙ ap (λ b. not b && not (is_among rs t)) (eq_turned r t)) ts

texts_back : (xs : List (List ℕ)) → texts_of (marks_of xs) ≡ xs
texts_back [] = refl
texts_back (x ∷ xs) = ap (λ ys. x ∷ ys) (texts_back xs)

marks_from : (front back : List (List ℕ)) → IsStrictlySortedBy by_bytes (front ++ back) → with_texts (marks_of front) back ≡ marks_of (front ++ back)
marks_from front [] s = ap marks_of (sym (append-nil front))
marks_from front (t ∷ ts) s =
    ap (λ ms. with_texts ms ts) (put_last (λ u. u) (λ u. tt) front t ts s)
    ∙ marks_from (front ++ t ∷ []) ts (subst (IsStrictlySortedBy by_bytes) (sym (append_assoc front (t ∷ []) ts)) s)
    ∙ ap marks_of (append_assoc front (t ∷ []) ts)

-- Labels of a list with those put on and without those taken off are the labels after the change.
pub changed_is : (labels on added removed : List (List ℕ)) → marks_of on ≡ with_texts (with_texts [] labels) added → without_each on removed ≡ changed labels added removed
changed_is labels on added removed is =
    without_is on removed
    ∙ filter_agree (λ t. not (is_among removed t)) (λ t. not (is_marked (with_texts [] removed) t)) (λ t. ap not (sym (marked_is removed t))) on
    ∙ ap (filter (λ t. not (is_marked (with_texts [] removed) t))) (sym (texts_back on) ∙ ap texts_of is)

-- The same of labels that ascend, which are a set as they stand.
pub set_changed_is : (labels on added removed : List (List ℕ)) → IsStrictlySortedBy by_bytes labels → marks_of on ≡ with_texts (marks_of labels) added → without_each on removed ≡ changed labels added removed
set_changed_is labels on added removed s is = changed_is labels on added removed (is ∙ ap (λ ms. with_texts ms added) (sym (marks_from [] labels s)))
