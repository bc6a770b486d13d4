-- Lists without repetition.
use Rattle.std.proofs.Common.{◌≡◌, ◌⊎◌, inl, inr, ⊎_elim, ◌≤◌, zero, suc, ℕ, List, [], ◌∷◌, ◌++◌, length, take, drop, map, Contains, sym, ap, subst, arith, length-append}
use Rattle.std.proofs.lemmas.List.{take-append-drop}
use Rattle.std.proofs.lemmas.List.Elements.{Contains-append_left, Contains-append_right, Contains-append_cases, Contains-push, Contains-push_cases, Contains-get_or}
use Rattle.commit_walk.specs.Distinct.{AreDistinct}

module _ {X : Type 0} where
  pub Contains-nil : (x : X) → Contains [] x → ⊥
  Contains-nil x c = omega (arith, c.1)

  pub Contains-one : (y x : X) → Contains (y ∷ []) x → y ≡ x
  Contains-one y x c = ⊎_elim (λ (n : Contains [] x). absurd (Contains-nil x n)) (λ (e : y ≡ x). e) (Contains-push_cases [] y x c)

  pub Contains-cons : (y : X) (ys : List X) (x : X) → Contains (y ∷ ys) x → (y ≡ x) ⊎ Contains ys x
  Contains-cons y ys x c = ⊎_elim (λ (h : Contains (y ∷ []) x). inl (Contains-one y x h)) (λ (h : Contains ys x). inr h) (Contains-append_cases (y ∷ []) ys x c)

  pub Contains-first : (x : X) (xs : List X) → Contains (x ∷ xs) x
  Contains-first x xs = Contains-append_left (x ∷ []) xs x (Contains-push [] x)

  pub Contains-later : (y : X) (ys : List X) (x : X) → Contains ys x → Contains (y ∷ ys) x
  Contains-later y ys x c = Contains-append_right (y ∷ []) ys x c

  pub Contains-take : (n : ℕ) (xs : List X) (x : X) → Contains (take n xs) x → Contains xs x
  Contains-take n xs x c = subst (λ (l : List X). Contains l x) (take-append-drop n xs) (Contains-append_left (take n xs) (drop n xs) x c)

  -- the first of a list without repetition does not come again
  pub AreDistinct-head : (x : X) (xs : List X) → AreDistinct (x ∷ xs) → Contains xs x → ⊥
  AreDistinct-head x xs once c = once zero (suc c.0) x (omega arith) (omega (arith, c.1)) (sym c.2)

  pub AreDistinct-tail : (x : X) (xs : List X) → AreDistinct (x ∷ xs) → AreDistinct xs
  AreDistinct-tail x xs once = λ i j d before within. once (suc i) (suc j) d (omega arith) (omega arith)

  AreDistinct-cons : (x : X) (xs : List X) → (Contains xs x → ⊥) → AreDistinct xs → AreDistinct (x ∷ xs)
  AreDistinct-cons x xs apart once i zero d before within same = omega (arith, before)
  AreDistinct-cons x xs apart once zero (suc j) d before within same = apart (subst (λ (z : X). Contains xs z) (sym same) (Contains-get_or xs j d (omega arith)))
  AreDistinct-cons x xs apart once (suc i) (suc j) d before within same = once i j d (omega arith) (omega arith) same

  pub AreDistinct-nil : AreDistinct {X = X} []
  AreDistinct-nil i j d before within same = omega (arith, within)

  -- one element more that was not there
  pub AreDistinct-push : (xs : List X) (x : X) → AreDistinct xs → (Contains xs x → ⊥) → AreDistinct (xs ++ x ∷ [])
  AreDistinct-push [] x once apart = AreDistinct-cons x [] apart once
  AreDistinct-push (y ∷ ys) x once apart =
      AreDistinct-cons y (ys ++ x ∷ [])
      (λ c. ⊎_elim (λ (h : Contains ys y). AreDistinct-head y ys once h) (λ (e : x ≡ y). apart (subst (λ (z : X). Contains (y ∷ ys) z) (sym e) (Contains-first y ys))) (Contains-push_cases ys x y c))
      (AreDistinct-push ys x (AreDistinct-tail y ys once) (λ c. apart (Contains-later y ys x c)))

  pub AreDistinct-take : (n : ℕ) (xs : List X) → AreDistinct xs → AreDistinct (take n xs)
  AreDistinct-take zero xs once = AreDistinct-nil
  AreDistinct-take (suc n) [] once = AreDistinct-nil
  AreDistinct-take (suc n) (x ∷ xs) once =
      AreDistinct-cons x (take n xs) (λ c. AreDistinct-head x xs once (Contains-take n xs x c)) (AreDistinct-take n xs (AreDistinct-tail x xs once))

  -- a list that has an element has it between two parts
  split_at : (ys : List X) (x : X) → Contains ys x → (a : List X) × (b : List X) × (ys ≡ a ++ x ∷ b)
  split_at [] x c = absurd (Contains-nil x c)
  split_at (y ∷ ys) x c =
      elim (Contains-cons y ys x c) [
        | inl e ↦ ([], ys, ap (λ (z : X). z ∷ ys) e)
        | inr h ↦ let s = split_at ys x h in (y ∷ s.0, s.1, ap (λ (l : List X). y ∷ l) s.2)
      ]

  -- elements that are not repeated are at most as many as those of a list that has them all
  pub length-distinct : (xs ys : List X) → AreDistinct xs → ((x : X) → Contains xs x → Contains ys x) → length xs ≤ length ys
  length-distinct [] ys once h = omega arith
  length-distinct (x ∷ xs) ys once h =
      let s = split_at ys x (h x (Contains-first x xs)) in
      let rest : (z : X) → Contains xs z → Contains (s.0 ++ s.1) z = λ z c.
      ⊎_elim (λ (l : Contains s.0 z). Contains-append_left s.0 s.1 z l)
      (λ (r : Contains (x ∷ s.1) z). ⊎_elim (λ (e : x ≡ z). absurd (AreDistinct-head x xs once (subst (λ (w : X). Contains xs w) (sym e) c))) (λ (k : Contains s.1 z). Contains-append_right s.0 s.1 z k) (Contains-cons x s.1 z r))
      (Contains-append_cases s.0 (x ∷ s.1) z (subst (λ (l : List X). Contains l z) s.2 (h z (Contains-later x xs z c)))) in
      let fewer : length xs ≤ length (s.0 ++ s.1) = length-distinct xs (s.0 ++ s.1) (AreDistinct-tail x xs once) rest in
      let whole : length ys ≡ length (s.0 ++ x ∷ s.1) = ap length s.2 in
      omega (arith, fewer, whole, length-append s.0 s.1, length-append s.0 (x ∷ s.1))

pub Contains-map : {X Y : Type 0} (f : X → Y) (xs : List X) (x : X) → Contains xs x → Contains (map f xs) (f x)
Contains-map f [] x c = absurd (Contains-nil x c)
Contains-map f (y ∷ ys) x c =
    elim (Contains-cons y ys x c) [
      | inl e ↦ subst (λ z. Contains (f y ∷ map f ys) (f z)) e (Contains-first (f y) (map f ys))
      | inr h ↦ Contains-later (f y) (map f ys) (f x) (Contains-map f ys x h)
    ]

-- what a mapped list has comes from an element
pub Contains-from_map : {X Y : Type 0} (f : X → Y) (xs : List X) (y : Y) → Contains (map f xs) y → (x : X) × Contains xs x × (f x ≡ y)
Contains-from_map f [] y c = absurd (Contains-nil y c)
Contains-from_map f (x ∷ xs) y c =
    elim (Contains-cons (f x) (map f xs) y c) [
      | inl e ↦ (x, Contains-first x xs, e)
      | inr h ↦ let found = Contains-from_map f xs y h in (found.0, Contains-later x xs found.0 found.1, found.2)
    ]
