-- The arguments that a pattern names are all of them.
use Rattle.std.proofs.Common.{◌≡◌, ◌≤◌, ◌<◌, ◌-◌, ◌∙◌, refl, sym, ap, ℕ, List, [], ◌∷◌, length, take, drop, take_all, get_or, arith}
use Rattle.std.specs.Borrow.{Bor}

-- the text of an argument
abbrev pub text : Bor (List ℕ) → List ℕ
text argument = argument.now

-- the item of a list of one
pub are_one : {X : Type 0} (xs : List X) (d : X) → 1 ≤ length xs → length xs < 2 → get_or xs 0 d ∷ [] ≡ xs
are_one [] d least most = absurd (omega (arith, least))
are_one (a ∷ []) d least most = refl
are_one (a ∷ b ∷ xs) d least most = absurd (omega (arith, most))

-- and those after it
pub begin_with_one : {X : Type 0} (xs : List X) (d : X) → 1 ≤ length xs → get_or xs 0 d ∷ take (length xs - 1) (drop 1 xs) ≡ xs
begin_with_one [] d least = absurd (omega (arith, least))
begin_with_one (a ∷ xs) d least = ap (λ ys. a ∷ ys) (take_all (length (a ∷ xs) - 1) xs (omega arith))

-- the items of a list of two
pub are_two : {X : Type 0} (xs : List X) (d e : X) → 2 ≤ length xs → length xs < 3 → get_or xs 0 d ∷ get_or xs 1 e ∷ [] ≡ xs
are_two [] d e least most = absurd (omega (arith, least))
are_two (a ∷ []) d e least most = absurd (omega (arith, least))
are_two (a ∷ b ∷ []) d e least most = refl
are_two (a ∷ b ∷ c ∷ xs) d e least most = absurd (omega (arith, most))

-- two items and those after them
pub begin_with_two : {X : Type 0} (xs : List X) (one two : X) → 2 ≤ length xs → one ≡ get_or xs 0 one → two ≡ get_or xs 1 two → xs ≡ one ∷ two ∷ take (length xs - 2) (drop 2 xs)
begin_with_two [] one two least is_one is_two = absurd (omega (arith, least))
begin_with_two (a ∷ []) one two least is_one is_two = absurd (omega (arith, least))
begin_with_two (a ∷ b ∷ xs) one two least is_one is_two =
    sym (ap (λ ys. one ∷ two ∷ ys) (take_all (length (a ∷ b ∷ xs) - 2) xs (omega arith)) ∙ ap (λ x. x ∷ two ∷ xs) is_one ∙ ap (λ x. a ∷ x ∷ xs) is_two)
