-- Steps that agree as far as both go, and paths below two folders.
use Rattle.std.proofs.lemmas.Bool.{and_parts}
use Rattle.std.proofs.Common.{◌≡◌, ◌⊎◌, ℕ, Bool, true, List, [], ◌∷◌, ◌++◌, refl, ◌∙◌, ap, inl, inr, arith}
use Rattle.std.specs.List.{list_all, zip}
use Rattle.std.specs.Str.{bytes_eq}
use Rattle.std.proofs.lemmas.Grind.{common_steps}
use Rattle.std.proofs.lemmas.Slice.Eq.{bytes_eq-Decides}
use Rattle.gb_text.specs.Folder.{is_rooted}
use Rattle.gb_text.specs.Overlap.{Overlap, IsFront, steps_of}

-- the items agree as far as both lists go
abbrev pub agree : List (List ℕ) → List (List ℕ) → Bool
agree xs ys = list_all (λ (pair : List ℕ × List ℕ). bytes_eq pair.0 pair.1) (zip xs ys)

-- lists that agree, one of which begins with the other
fronts_of_agree : (xs ys : List (List ℕ)) → agree xs ys ≡ true → IsFront xs ys ⊎ IsFront ys xs
fronts_of_agree [] ys e = inl (ys, refl)
fronts_of_agree (x ∷ xs) [] e = inr (x ∷ xs, refl)
fronts_of_agree (x ∷ xs) (y ∷ ys) e = more (fronts_of_agree xs ys (and_parts (bytes_eq x y) (agree xs ys) e).1)
  where
    same : x ≡ y
    same = (bytes_eq-Decides x y).0 (and_parts (bytes_eq x y) (agree xs ys) e).0

    more : IsFront xs ys ⊎ IsFront ys xs → IsFront (x ∷ xs) (y ∷ ys) ⊎ IsFront (y ∷ ys) (x ∷ xs)
    more (inl front) = inl (front.0, let e = front.1 in cc (same))
    more (inr front) = inr (front.0, let e = front.1 in cc (same))

agree_of_front : (xs rest : List (List ℕ)) → agree xs (xs ++ rest) ≡ true
agree_of_front [] rest = refl
agree_of_front (x ∷ xs) rest = let later = agree_of_front xs rest in grind (arith, common_steps, bytes_eq-Decides x x)

agree_of_back : (xs rest : List (List ℕ)) → agree (xs ++ rest) xs ≡ true
agree_of_back [] [] = refl
agree_of_back [] (y ∷ rest) = refl
agree_of_back (x ∷ xs) rest = let later = agree_of_back xs rest in grind (arith, common_steps, bytes_eq-Decides x x)

agree_of_fronts : (xs ys : List (List ℕ)) → IsFront xs ys ⊎ IsFront ys xs → agree xs ys ≡ true
agree_of_fronts xs ys (inl front) = ap (agree xs) front.1 ∙ agree_of_front xs front.0
agree_of_fronts xs ys (inr front) = ap (λ (zs : List (List ℕ)). agree zs ys) front.1 ∙ agree_of_back ys front.0

-- folders whose steps agree as far as both go overlap
pub Overlap-from_agree : (one two : List ℕ) → is_rooted one ≡ is_rooted two → agree (steps_of one) (steps_of two) ≡ true → Overlap one two
Overlap-from_agree one two same e = record { same_root = same; front = fronts_of_agree (steps_of one) (steps_of two) e }

-- the steps of folders that overlap agree as far as both go
pub agree-Overlap : (one two : List ℕ) → Overlap one two → agree (steps_of one) (steps_of two) ≡ true
agree-Overlap one two over = agree_of_fronts (steps_of one) (steps_of two) over.front
