-- Fronts of texts of which each byte is of a class.
use Rattle.std.proofs.Common.{◌≡◌, ℕ, ◌+◌, List, [], ◌∷◌, ◌++◌, take, drop, Bool, true, subst, sym}
use Rattle.std.proofs.Math.Seq.{take-add}
use Rattle.std.proofs.lemmas.Bool.{and_parts}
use Rattle.std.specs.List.{list_all}
use Rattle.json_span.specs.Grammar.{Each}

each_append : (p : ℕ → Bool) (xs ys : List ℕ) → Each p xs → Each p ys → Each p (xs ++ ys)
each_append p [] ys one two = two
each_append p (x ∷ xs) ys one two = (one.0, each_append p xs ys one.1 two)

-- A front and the front of what follows are a front.
pub each_further : (p : ℕ → Bool) (n m : ℕ) (text : List ℕ) → Each p (take n text) → Each p (take m (drop n text)) → Each p (take (n + m) text)
each_further p n m text one two = subst (Each p) (sym (take-add n m text)) (each_append p (take n text) (take m (drop n text)) one two)

-- Each byte is of a class where the test of all is passed.
pub each_of_all : (p : ℕ → Bool) (xs : List ℕ) → list_all p xs ≡ true → Each p xs
each_of_all p [] is = tt
each_of_all p (x ∷ xs) is = let both = and_parts (p x) (list_all p xs) is in (both.0, each_of_all p xs both.1)
