-- Lists that grow at their end, where each two elements stand in a relation.
use Rattle.std.proofs.Common.{◌<◌, List, [], ◌∷◌, ◌++◌, length, get_or, Contains, subst, arith, length-append}
use Rattle.std.specs.List.{AllPairs}
use Rattle.std.proofs.Math.ListN.{get_or-append}
use Rattle.std.proofs.Math.Seq.{get_or-append_seam}
use Rattle.std.proofs.lemmas.List.Quantifiers.{all_pairs_push}
use Rattle.std.proofs.lemmas.List.Elements.{Contains-get_or}

module _ {X : Type 0} (R : X → X → Type 0) where
  pub pairs_front : (xs ys : List X) → AllPairs R (xs ++ ys) → AllPairs R xs
  pairs_front xs ys all i j d before within =
      let whole : j < length (xs ++ ys) = omega (arith, within, length-append xs ys) in
      let first : i < length xs = omega (arith, before, within) in
      let at : R (get_or (xs ++ ys) i d) (get_or (xs ++ ys) j d) = all i j d before whole in
      let left : R (get_or xs i d) (get_or (xs ++ ys) j d) = subst (λ (x : X). R x (get_or (xs ++ ys) j d)) (get_or-append xs ys d i first) at in
      subst (λ (x : X). R (get_or xs i d) x) (get_or-append xs ys d j within) left

  pub pairs_last : (xs : List X) (x y : X) → AllPairs R (xs ++ x ∷ []) → Contains xs y → R y x
  pairs_last xs x y all c =
      let whole : length xs < length (xs ++ x ∷ []) = omega (arith, length-append xs (x ∷ [])) in
      let at : R (get_or (xs ++ x ∷ []) c.0 y) (get_or (xs ++ x ∷ []) (length xs) y) = all c.0 (length xs) y c.1 whole in
      let right : R (get_or (xs ++ x ∷ []) c.0 y) x = subst (λ (z : X). R (get_or (xs ++ x ∷ []) c.0 y) z) (get_or-append_seam xs x [] y) at in
      let left : R (get_or xs c.0 y) x = subst (λ (z : X). R z x) (get_or-append xs (x ∷ []) y c.0 c.1) right in
      subst (λ (z : X). R z x) c.2 left

  pub pairs_push : (xs : List X) (x : X) → AllPairs R xs → ((y : X) → Contains xs y → R y x) → AllPairs R (xs ++ x ∷ [])
  pairs_push xs x all each = all_pairs_push R xs x all (λ k d within. each (get_or xs k d) (Contains-get_or xs k d within))
