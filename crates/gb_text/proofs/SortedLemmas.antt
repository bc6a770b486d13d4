-- Lists that ascend strictly: those with the same elements are equal, and none has an element twice.
use Rattle.std.specs.Prelude.{slice_index_or}
use Rattle.std.proofs.Common.{◌≡◌, ◌≢◌, ℕ, ◌<◌, ◌∙◌, ◌⊎◌, inl, inr, refl, sym, subst, zero, suc, List, [], ◌∷◌, length, arith}
use Rattle.std.specs.declared.cmp.Ordering.{Ordering}
use Rattle.std.specs.declared.cmp.Ordering.TheVariants.{Less}
use Rattle.std.specs.Cmp.{IsTotalOrder}
use Rattle.std.specs.List.{AllByRecursion, AllPairs, Contains}
use Rattle.std.specs.List.Sorted.{IsStrictlySortedBy}
use Rattle.std.proofs.lemmas.Cmp.{tied_itself}
use Rattle.std.proofs.lemmas.List.Elements.{All-contains, All-from_recursion}

module _ {X : Type 0} {R : X → X → Ordering} (o : IsTotalOrder R) where
  not_both : (x y : X) → R x y ≡ Less → R y x ≡ Less → ⊥
  not_both x y h k = let r = o.antisymm x y in cc (h, k, r)

  first_or_later : (x y : X) (ys : List X) → Contains (y ∷ ys) x → (y ≡ x) ⊎ Contains ys x
  first_or_later x y ys (zero, low, is) = inl is
  first_or_later x y ys (suc k, low, is) = inr (k, omega arith, is)

  first : (y : X) (ys : List X) → Contains (y ∷ ys) y
  first y ys = (zero, omega arith, refl)

  later : (x y : X) (ys : List X) → Contains ys x → Contains (y ∷ ys) x
  later x y ys c = let low : c.0 < length ys = c.1 in (suc c.0, omega arith, c.2)

  below : (x y : X) (ys : List X) → AllByRecursion (λ z. R y z ≡ Less) ys → Contains ys x → R y x ≡ Less
  below x y ys all c = All-contains (λ z. R y z ≡ Less) ys x (All-from_recursion (λ z. R y z ≡ Less) ys all) c

  not_itself : (x : X) → R x x ≡ Less → ⊥
  not_itself x h = let e = tied_itself o x in cc (h, e)

  heads_same : (x y : X) (xs ys : List X) → AllByRecursion (λ z. R x z ≡ Less) xs → AllByRecursion (λ z. R y z ≡ Less) ys
      → (y ≡ x) ⊎ Contains ys x → (x ≡ y) ⊎ Contains xs y → x ≡ y
  heads_same x y xs ys s t (inl e) d = sym e
  heads_same x y xs ys s t (inr c) (inl e) = e
  heads_same x y xs ys s t (inr c) (inr d) = absurd (not_both y x (below x y ys t c) (below y x xs s d))

  in_rest : (x y z : X) (xs ys : List X) → AllByRecursion (λ z. R x z ≡ Less) xs → x ≡ y → Contains xs z → (y ≡ z) ⊎ Contains ys z → Contains ys z
  in_rest x y z xs ys s e c (inl same) = absurd (not_itself x (subst (λ w. R x w ≡ Less) (sym (e ∙ same)) (below z x xs s c)))
  in_rest x y z xs ys s e c (inr d) = d

  -- Strictly ascending lists with the same elements are equal.
  pub same_elements : (xs ys : List X) → IsStrictlySortedBy R xs → IsStrictlySortedBy R ys
      → ((z : X) → Contains xs z → Contains ys z) → ((z : X) → Contains ys z → Contains xs z) → xs ≡ ys
  unfolding IsStrictlySortedBy
  same_elements [] [] s t f g = refl
  same_elements [] (y ∷ ys) s t f g = let c = g y (first y ys) in let low : c.0 < 0 = c.1 in absurd (omega arith)
  same_elements (x ∷ xs) [] s t f g = let c = f x (first x xs) in let low : c.0 < 0 = c.1 in absurd (omega arith)
  same_elements (x ∷ xs) (y ∷ ys) s t f g =
      let e : x ≡ y = heads_same x y xs ys s.0 t.0 (first_or_later x y ys (f x (first x xs))) (first_or_later y x xs (g y (first y ys))) in
      let rest : xs ≡ ys = same_elements xs ys s.1 t.1
      (λ z c. in_rest x y z xs ys s.0 e c (first_or_later z y ys (f z (later z x xs c))))
      (λ z c. in_rest y x z ys xs t.0 (sym e) c (first_or_later z x xs (g z (later z y ys c)))) in
      λ i. e i ∷ rest i

  item_at : (P : X → Type 0) (xs : List X) → AllByRecursion P xs → (j : ℕ) (d : X) → j < length xs → P (slice_index_or xs j d)
  item_at P [] all j d low = absurd (omega arith)
  item_at P (x ∷ xs) all zero d low = all.0
  item_at P (x ∷ xs) all (suc j) d low = item_at P xs all.1 j d (omega arith)

  less_later : (xs : List X) → IsStrictlySortedBy R xs → (i j : ℕ) (d : X) → i < j → j < length xs → R (slice_index_or xs i d) (slice_index_or xs j d) ≡ Less
  unfolding IsStrictlySortedBy
  less_later [] s i j d lt low = absurd (omega arith)
  less_later (x ∷ xs) s i zero d lt low = absurd (omega arith)
  less_later (x ∷ xs) s zero (suc j) d lt low = item_at (λ z. R x z ≡ Less) xs s.0 j d (omega arith)
  less_later (x ∷ xs) s (suc i) (suc j) d lt low = less_later xs s.1 i j d (omega arith) (omega arith)

  -- A strictly ascending list has no element twice.
  pub distinct_elements : (xs : List X) → IsStrictlySortedBy R xs → AllPairs (λ x y. x ≢ y) xs
  distinct_elements xs s = λ i j d lt low same. not_itself (slice_index_or xs i d) (subst (λ z. R (slice_index_or xs i d) z ≡ Less) (sym same) (less_later xs s i j d lt low))
