-- Items in byte order of their keys, and what is put among them.
use Rattle.std.proofs.Common.{◌≡◌, ◌∙◌, ◌++◌, refl, sym, ap, ℕ, List, [], ◌∷◌, map}
use Rattle.std.specs.BTreeMap.{insert_entry}
use Rattle.std.specs.List.{AllByRecursion}
use Rattle.std.specs.List.Sorted.{IsStrictlySortedBy}
use Rattle.std.specs.Cmp.Lexicographic.{nat_list_cmp_total}
use Rattle.std.specs.Ordering.{match_ordering}
use Rattle.std.specs.declared.cmp.Ordering.{Ordering}
use Rattle.std.specs.declared.cmp.Ordering.TheVariants.{Less, Equal, Greater}
use Rattle.bug_ops.specs.Snapshots.{by_bytes}

-- ---- byte order

pub greater_back : (x y : List ℕ) → by_bytes x y ≡ Less → by_bytes y x ≡ Greater
greater_back x y less = let r = nat_list_cmp_total.antisymm y x in cc (less, r)

pub less_back : (x y : List ℕ) → by_bytes x y ≡ Greater → by_bytes y x ≡ Less
less_back x y greater = let r = nat_list_cmp_total.antisymm y x in cc (greater, r)

pub equal_back : (x y : List ℕ) → by_bytes x y ≡ Equal → by_bytes y x ≡ Equal
equal_back x y equal = let r = nat_list_cmp_total.antisymm y x in cc (equal, r)

-- What holds of all items holds of the one behind some.
pub behind_front : {A : Type 0} (P : A → Type 0) (front : List A) (x : A) (xs : List A) → AllByRecursion P (front ++ x ∷ xs) → P x
behind_front P [] x xs all = all.0
behind_front P (y ∷ ys) x xs all = behind_front P ys x xs all.1

-- ---- an item that is put behind others

module _ {A V : Type 0} (key : A → List ℕ) (value : A → V) where
  -- the items as entries
  abbrev entries : List A → List (List ℕ × V)
  entries xs = map (λ x. (key x, value x)) xs

  at_head : (x : A) (xs : List A) (a : A) (r : Ordering) → by_bytes (key a) (key x) ≡ r
      → match_ordering r ((key a, value a) ∷ entries (x ∷ xs)) ((key x, value a) ∷ entries xs) ((key x, value x) ∷ insert_entry by_bytes (entries xs) (key a) (value a))
      ≡ insert_entry by_bytes (entries (x ∷ xs)) (key a) (value a)
  at_head x xs a r is = ap (λ r. match_ordering r ((key a, value a) ∷ entries (x ∷ xs)) ((key x, value a) ∷ entries xs) ((key x, value x) ∷ insert_entry by_bytes (entries xs) (key a) (value a))) (sym is)

  -- An item above all others goes behind them.
  pub put_last : (front : List A) (x : A) (xs : List A) → IsStrictlySortedBy (λ x y. by_bytes (key x) (key y)) (front ++ x ∷ xs)
      → insert_entry by_bytes (entries front) (key x) (value x) ≡ entries (front ++ x ∷ [])
  unfolding IsStrictlySortedBy
  put_last [] x xs s = refl
  put_last (y ∷ ys) x xs s =
      sym (at_head y ys x Greater (greater_back (key y) (key x) (behind_front (λ z. by_bytes (key y) (key z) ≡ Less) ys x xs s.0)))
      ∙ ap (λ es. (key y, value y) ∷ es) (put_last ys x xs s.1)
