-- Of two commits of which each is at or below the other, where no ring is, both are one.
use Rattle.std.proofs.Common.{◌≡◌, ◌⊎◌, inl, inr, [], ◌∷◌, sym, subst}
use Rattle.gb_text.specs.declared.id.Name.{Name}
use Rattle.object_store.specs.Held.{Objects}
use Rattle.commit_walk.specs.Below.{IsBelow, IsParent, head as at_top, parent}
use Rattle.commit_walk.proofs.DistinctLemmas.{Contains-first, Contains-one}
use Rattle.commit_walk.proofs.ParentLemmas.{leads_below}
use Rattle.copy_limits.specs.Commits.{HasNoRing, LiesUnder}

-- what is at or below a commit is the commit, or lies under it
at_or_under : (objects : Objects) (top name : Name) → IsBelow objects (top ∷ []) name → (top ≡ name) ⊎ LiesUnder objects top name
at_or_under objects top name (at_top c) = inl (Contains-one top name c)
at_or_under objects top name (parent {high = high} b p) = elim (at_or_under objects top high b) [
  | inl same ↦ inr (record { parent = name; is_parent = subst (λ (n : Name). IsParent objects n name) (sym same) p; below = at_top (Contains-first name []) })
  | inr under ↦ inr (record { parent = under.parent; is_parent = under.is_parent; below = parent under.below p })
]

pub both_below : (objects : Objects) (top name : Name) → HasNoRing objects top → IsBelow objects (top ∷ []) name → IsBelow objects (name ∷ []) top → name ≡ top
both_below objects top name no_ring below back = elim (at_or_under objects name top back) [
  | inl same ↦ same
  | inr under ↦ absurd (no_ring name below (record { parent = under.parent; is_parent = under.is_parent; below = leads_below objects (under.parent ∷ []) top name under.below below }))
]
