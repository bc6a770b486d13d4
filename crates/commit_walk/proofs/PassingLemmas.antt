-- A search for a name along a chain: one step more, and what is known where it ends.
use Rattle.std.proofs.Common.{◌≡◌, ◌≢◌, inl, inr, true, false, ◌<◌, ◌≤◌, ◌+◌, ℕ, List, [], ◌∷◌, length, Some, None, refl, sym, ◌∙◌, ap, subst, arith}
use Rattle.std.specs.Str.{bytes_eq}
use Rattle.std.proofs.lemmas.Bool.{cases_eq}
use Rattle.std.proofs.lemmas.Slice.Eq.{bytes_eq-Decides}
use Rattle.gb_text.specs.declared.id.Name.{Name}
use Rattle.object_store.specs.Held.{Objects}
use Rattle.commit_walk.specs.Chain.{Chain, Meets}
use Rattle.commit_walk.specs.Passing.{HasCome, HasParent}
use Rattle.commit_walk.proofs.ChainLemmas.{Chain-same, Chain-shorter}

-- ---- the walk

module _ (objects : Objects) (head sought : Name) where
  pub come_first : HasCome objects head sought head 0
  come_first = record { above = []; chain = refl; count = refl; not_before = λ met. omega arith }

  -- the sought name is met further on, unless it is here
  pub not_here : (name : Name) (steps : ℕ) (come : HasCome objects head sought name steps) → name ≢ sought → (met : Meets objects head sought) → steps < length met.above
  not_here name steps come differ met =
      elim (cases_eq (length come.above) (length met.above)) [
        | inl e ↦ absurd (differ (Chain-same objects head come.above met.above name sought e come.chain met.chain).1)
        | inr other ↦ omega (arith, other, come.count, come.not_before met)
      ]

  pub come_further : (name parent : Name) (steps : ℕ) → HasCome objects head sought name steps → name ≢ sought → HasParent objects name (Some parent) → HasCome objects head sought parent (steps + 1)
  come_further name parent steps come differ has = record {
    above = has.0 ∷ come.above;
    chain = (subst (Chain objects head come.above) (sym has.1) come.chain, has.2);
    count = omega (arith, come.count);
    not_before = λ met. let later = not_here name steps come differ met in omega (arith, later);
  }

  -- it is met where the walk stands
  pub met_here : (name : Name) (steps : ℕ) → HasCome objects head sought name steps → name ≡ sought → steps ≤ 65536 → Meets objects head sought
  met_here name steps come same few = record { above = come.above; chain = subst (Chain objects head come.above) same come.chain; near = omega (arith, come.count, few) }

  -- it is not met where no parent is left
  pub not_met : (name : Name) (steps : ℕ) → HasCome objects head sought name steps → name ≢ sought → HasParent objects name None → Meets objects head sought → ⊥
  not_met name steps come differ none met =
      let later : length come.above < length met.above = omega (arith, come.count, not_here name steps come differ met) in
      let further = Chain-shorter objects head come.above met.above name sought later come.chain met.chain in
      none further.0 further.1 further.2 further.3

  -- nor after so many
  pub too_far : (name : Name) (steps : ℕ) → HasCome objects head sought name steps → name ≢ sought → 65536 ≤ steps → Meets objects head sought → ⊥
  too_far name steps come differ far met = omega (arith, far, not_here name steps come differ met, met.near)

-- ---- names that are compared

pub name_same : (a b : Name) → bytes_eq a.bytes b.bytes ≡ true → a ≡ b
name_same a b is_true = ap (λ (bytes : List ℕ). record { bytes = bytes }) ((bytes_eq-Decides a.bytes b.bytes).0 is_true)

pub name_differs : (a b : Name) → bytes_eq a.bytes b.bytes ≡ false → a ≢ b
name_differs a b is_false = λ e. let is_true = (bytes_eq-Decides a.bytes b.bytes).1 (ap (λ (n : Name). n.bytes) e) in cc (sym is_false ∙ is_true)
