-- Parents lie below, and nothing else does but heads.
use Rattle.std.proofs.Common.{◌≡◌, ◌↔◌, ◌⊎◌, inl, inr, ◌∷◌, [], List, Contains, Some, sym, ◌∙◌, ap, subst}
use Rattle.gb_text.specs.declared.id.Name.{Name}
use Rattle.git_object.specs.declared.commit.Commit.{Commit}
use Rattle.object_store.specs.Held.{Objects}
use Rattle.object_store.specs.Typed.{commit_at}
use Rattle.commit_walk.specs.Below.{IsBelow, IsParent, head, parent}
use Rattle.commit_walk.proofs.BelowLemmas.{below_below}
use Rattle.commit_walk.proofs.DistinctLemmas.{Contains-cons, Contains-first, Contains-nil}

module _ (objects : Objects) where
  -- a parent of a commit that lies below lies below
  pub parent_below : (heads : List Name) (high low : Name) (commit : Commit) → IsBelow objects heads high → commit_at objects high ≡ Some commit → Contains commit.parents low → IsBelow objects heads low
  parent_below heads high low commit below held names = parent below (record { commit = commit; held = held; names = names })

  -- and so does all that it leads to
  pub leads_below : (heads : List Name) (low name : Name) → IsBelow objects heads low → IsBelow objects (low ∷ []) name → IsBelow objects heads name
  leads_below heads low name below under = below_below objects heads (low ∷ []) name each under
    where
      each : (n : Name) → Contains (low ∷ []) n → IsBelow objects heads n
      each n c = elim (Contains-cons low [] n c) [
        | inl e ↦ subst (IsBelow objects heads) e below
        | inr none ↦ absurd (Contains-nil n none)
      ]

  -- what lies below is a head, or a parent of a commit that lies below
  pub below_or_parent : (heads : List Name) (name : Name) → IsBelow objects heads name
      → Contains heads name ⊎ ((high : Name) × IsBelow objects heads high × ((commit : Commit) × (commit_at objects high ≡ Some commit) × Contains commit.parents name))
  below_or_parent heads name (head c) = inl c
  below_or_parent heads name (parent {high = high} b p) = inr (high, b, (p.commit, p.held, p.names))

  module _ (top : Name) where
    abbrev Leads : Name → Type 0
    Leads name = (name ≡ top) ⊎ ((commit : Commit) × (commit_at objects top ≡ Some commit) × IsBelow objects commit.parents name)

    next : (high low : Name) → IsParent objects high low → Leads high → Leads low
    next high low p (inl e) = inr (p.commit, ap (commit_at objects) (sym e) ∙ p.held, head p.names)
    next high low p (inr h) = inr (h.0, h.1, parent h.2 p)

    down : (name : Name) → IsBelow objects (top ∷ []) name → Leads name
    down name (head c) = elim (Contains-cons top [] name c) [ inl e ↦ inl (sym e) | inr none ↦ absurd (Contains-nil name none) ]
    down name (parent {high = high} b p) = next high name p (down high b)

    up : (name : Name) → Leads name → IsBelow objects (top ∷ []) name
    up name (inl e) = head (subst (Contains (top ∷ [])) (sym e) (Contains-first top []))
    up name (inr h) = below_below objects (top ∷ []) h.0.parents name (λ n c. parent_below (top ∷ []) top n h.0 (head (Contains-first top [])) h.1 c) h.2

    -- below one head lie the head and what lies below its parents
    pub below_head : (name : Name) → IsBelow objects (top ∷ []) name ↔ ((name ≡ top) ⊎ ((commit : Commit) × (commit_at objects top ≡ Some commit) × IsBelow objects commit.parents name))
    below_head name = (down name, up name)
