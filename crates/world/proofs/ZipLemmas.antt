-- Two lists, place by place.
use Rattle.std.proofs.Common.{◌≡◌, ◌+◌, ◌<◌, ℕ, List, [], ◌∷◌, ◌++◌, length, take, get_or, refl, sym, ◌∙◌, arith}
use Rattle.std.proofs.lemmas.List.{map-id, take_more}
use Rattle.std.proofs.lemmas.List.FromFn.{map-range_with_len_more}
use Rattle.std.specs.List.{AllZip, range_with_len}

-- one item more on both sides
push : {A B : Type 0} (R : A → B → Type 0) (xs : List A) (ys : List B) (x : A) (y : B) → AllZip R xs ys → R x y → AllZip R (xs ++ x ∷ []) (ys ++ y ∷ [])
push R [] [] x y all is = (is, tt)
push R [] (b ∷ ys) x y all is = absurd all
push R (a ∷ xs) [] x y all is = absurd all
push R (a ∷ xs) (b ∷ ys) x y all is = (all.0, push R xs ys x y all.1 is)

-- the next item of a list
pub take_next : {A B : Type 0} (R : A → B → Type 0) (xs : List A) (i : ℕ) (d : A) (ys : List B) (y : B) → i < length xs → AllZip R (take i xs) ys → R (get_or xs i d) y
    → AllZip R (take (i + 1) xs) (ys ++ y ∷ [])
take_next R xs i d ys y within all is = rw (take_more xs i d within) (push R (take i xs) ys (get_or xs i d) y all is)

-- the next number
pub next_number : {B : Type 0} (R : ℕ → B → Type 0) (k : ℕ) (ys after : List B) (y : B) → AllZip R (range_with_len 0 k) ys → R k y → after ≡ ys ++ y ∷ []
    → AllZip R (range_with_len 0 (k + 1)) after
next_number R k ys after y all is e =
    let more : range_with_len 0 (k + 1) ≡ range_with_len 0 k ++ k ∷ []
    = sym (map-id (range_with_len 0 (k + 1))) ∙ map-range_with_len_more (λ (n : ℕ). n) 0 k k (omega arith) ∙ rw (map-id (range_with_len 0 k)) refl in
    rw (e, more) (push R (range_with_len 0 k) ys k y all is)
