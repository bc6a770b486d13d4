-- What lists have, and at which position.
use Rattle.std.proofs.Common.{◌≡◌, ◌⊎◌, inl, inr, ⊎_elim, ◌<◌, zero, suc, List, [], ◌∷◌, length, map, get_or, Contains, refl, sym, ◌∙◌, subst, arith, ℕ}
use Rattle.std.proofs.lemmas.List.Elements.{Contains-append_left, Contains-append_right, Contains-append_cases, Contains-push, Contains-push_cases}

-- an element that is there does not depend on what stands for none
pub get_or_any : {X : Type 0} (xs : List X) (k : ℕ) (d e : X) → k < length xs → get_or xs k d ≡ get_or xs k e
get_or_any [] k d e lt = absurd (omega arith)
get_or_any (x ∷ xs) zero d e lt = refl
get_or_any (x ∷ xs) (suc k) d e lt = get_or_any xs k d e (omega arith)

pub one_element : {X : Type 0} (xs : List X) (d : X) → length xs ≡ 1 → xs ≡ get_or xs 0 d ∷ []
one_element [] d e = absurd (omega (arith, e))
one_element (x ∷ []) d e = refl
one_element (x ∷ y ∷ xs) d e = absurd (omega (arith, e))

pub no_element : {X : Type 0} (xs : List X) → length xs ≡ 0 → xs ≡ []
no_element [] e = refl
no_element (x ∷ xs) e = absurd (omega (arith, e))

module _ {X : Type 0} where
  pub Contains-nil : (x : X) → Contains [] x → ⊥
  Contains-nil x c = omega (arith, c.1)

  pub Contains-one : (y x : X) → Contains (y ∷ []) x → y ≡ x
  Contains-one y x c = ⊎_elim (λ (n : Contains [] x). absurd (Contains-nil x n)) (λ (e : y ≡ x). e) (Contains-push_cases [] y x c)

  pub Contains-cons : (y : X) (ys : List X) (x : X) → Contains (y ∷ ys) x → (y ≡ x) ⊎ Contains ys x
  Contains-cons y ys x c = ⊎_elim (λ (h : Contains (y ∷ []) x). inl (Contains-one y x h)) (λ (h : Contains ys x). inr h) (Contains-append_cases (y ∷ []) ys x c)

  pub Contains-first : (x : X) (xs : List X) → Contains (x ∷ xs) x
  Contains-first x xs = Contains-append_left (x ∷ []) xs x (Contains-push [] x)

  pub Contains-later : (y : X) (ys : List X) (x : X) → Contains ys x → Contains (y ∷ ys) x
  Contains-later y ys x c = Contains-append_right (y ∷ []) ys x c

-- what was read at a position is there, whatever stands for none
pub read_at : {X : Type 0} (xs : List X) (k : ℕ) (d x : X) → k < length xs → x ≡ get_or xs k x → get_or xs k d ≡ x
read_at xs k d x within is = get_or_any xs k d x within ∙ sym is

pub Contains-map : {X Y : Type 0} (f : X → Y) (xs : List X) (x : X) → Contains xs x → Contains (map f xs) (f x)
Contains-map f [] x c = absurd (Contains-nil x c)
Contains-map f (y ∷ ys) x c =
    elim (Contains-cons y ys x c) [
      | inl e ↦ subst (λ z. Contains (f y ∷ map f ys) (f z)) e (Contains-first (f y) (map f ys))
      | inr h ↦ Contains-later (f y) (map f ys) (f x) (Contains-map f ys x h)
    ]

-- what a mapped list has comes from an element
pub Contains-from_map : {X Y : Type 0} (f : X → Y) (xs : List X) (y : Y) → Contains (map f xs) y → (x : X) × Contains xs x × (f x ≡ y)
Contains-from_map f [] y c = absurd (Contains-nil y c)
Contains-from_map f (x ∷ xs) y c =
    elim (Contains-cons (f x) (map f xs) y c) [
      | inl e ↦ (x, Contains-first x xs, e)
      | inr h ↦ let found = Contains-from_map f xs y h in (found.0, Contains-later x xs found.0 found.1, found.2)
    ]
