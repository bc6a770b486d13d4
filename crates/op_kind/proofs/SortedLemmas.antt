-- An entry that is put in its place leaves a list strictly ascending.
use Rattle.std.proofs.Common.{◌≡◌, ◌<◌, ◌∙◌, ◌⊎◌, inl, inr, refl, sym, subst, zero, suc, List, [], ◌∷◌, length, arith}
use Rattle.std.specs.Prelude.{false}
use Rattle.std.specs.declared.cmp.Ordering.{Ordering}
use Rattle.std.specs.declared.cmp.Ordering.TheVariants.{Less, Equal, Greater}
use Rattle.std.specs.Ordering.{is_eq, match_ordering}
use Rattle.std.specs.Cmp.{IsTotalOrder}
use Rattle.std.specs.List.{AllByRecursion, Contains}
use Rattle.std.specs.List.Sorted.{IsStrictlySortedBy, IsPermutation}
use Rattle.std.specs.BTreeMap.{insert_entry, is_at}
use Rattle.std.proofs.lemmas.Cmp.{tied_itself}
use Rattle.std.proofs.lemmas.Map.{NonePasses}
use Rattle.std.proofs.lemmas.List.Elements.{All-contains, All-from_recursion}
use Rattle.std.proofs.lemmas.List.Sorted.{IsPermutation-refl, IsPermutation-cons, IsPermutation-trans, IsPermutation-middle}

module _ {K V : Type 0} {R : K → K → Ordering} (o : IsTotalOrder R) where
  -- two entries by their keys
  abbrev pub by_first : K × V → K × V → Ordering
  by_first e f = R e.0 f.0

  all_put : (P : K × V → Type 0) (es : List (K × V)) (k : K) (v : V) → NonePasses (is_at (R k)) es → P (k, v) → AllByRecursion P es → AllByRecursion P (insert_entry R es k v)
  all_put P [] k v none p all = (p, tt)
  all_put P (e ∷ es) k v none p all = by (R k e.0) none.0 (all_put P es k v none.1 p all.1)
    where
      by : (r : Ordering) → is_eq r ≡ false → AllByRecursion P (insert_entry R es k v) → AllByRecursion P (match_ordering r ((k, v) ∷ e ∷ es) ((e.0, v) ∷ es) (e ∷ insert_entry R es k v))
      by Less not_same rest = (p, all)
      by Equal not_same rest = absurd (cc (not_same))
      by Greater not_same rest = (all.0, rest)

  all_above : (k : K) (v : V) (e : K × V) (es : List (K × V)) → R k e.0 ≡ Less → AllByRecursion (λ f. by_first e f ≡ Less) es → AllByRecursion (λ f. by_first (k, v) f ≡ Less) es
  all_above k v e [] l all = tt
  all_above k v e (f ∷ es) l all = (o.trans k e.0 f.0 l all.0, all_above k v e es l all.1)

  -- An entry with a new key leaves the keys ascending.
  pub put_sorted : (es : List (K × V)) (k : K) (v : V) → NonePasses (is_at (R k)) es → IsStrictlySortedBy by_first es → IsStrictlySortedBy by_first (insert_entry R es k v)
  unfolding IsStrictlySortedBy
  put_sorted [] k v none s = (tt, tt)
  put_sorted (e ∷ es) k v none s = by (R k e.0) refl none.0 (put_sorted es k v none.1 s.1)
    where
      by : (r : Ordering) → R k e.0 ≡ r → is_eq r ≡ false → IsStrictlySortedBy by_first (insert_entry R es k v) → IsStrictlySortedBy by_first (match_ordering r ((k, v) ∷ e ∷ es) ((e.0, v) ∷ es) (e ∷ insert_entry R es k v))
      by Less is not_same rest = ((is, all_above k v e es is s.0), s)
      by Equal is not_same rest = absurd (cc (not_same))
      by Greater is not_same rest = (all_put (λ f. by_first e f ≡ Less) es k v none.1 (let r = o.antisymm e.0 k in cc (is, r)) s.0, rest)

  -- An entry with a new key is one more.
  pub put_adds : (es : List (K × V)) (k : K) (v : V) → NonePasses (is_at (R k)) es → IsPermutation ((k, v) ∷ es) (insert_entry R es k v)
  put_adds [] k v none = IsPermutation-refl ((k, v) ∷ [])
  put_adds (e ∷ es) k v none = by (R k e.0) none.0 (put_adds es k v none.1)
    where
      by : (r : Ordering) → is_eq r ≡ false → IsPermutation ((k, v) ∷ es) (insert_entry R es k v) → IsPermutation ((k, v) ∷ e ∷ es) (match_ordering r ((k, v) ∷ e ∷ es) ((e.0, v) ∷ es) (e ∷ insert_entry R es k v))
      by Less not_same rest = IsPermutation-refl ((k, v) ∷ e ∷ es)
      by Equal not_same rest = absurd (cc (not_same))
      by Greater not_same rest = IsPermutation-trans _ (e ∷ (k, v) ∷ es) _ (IsPermutation-middle ((k, v) ∷ []) e es) (IsPermutation-cons e _ _ rest)
