-- What a refusal for a limit tells, and what is then so of the part.
use Rattle.std.proofs.Common.{◌≡◌, ◌≢◌, ◌↔◌, ◌⊎◌, inl, inr, ◌<◌, Bool, ℕ, List, All, Contains, length, refl, arith}
use Rattle.gb_text.specs.declared.id.Name.{Name}
use Rattle.git_object.specs.declared.frame.Kind.TheVariants as kinds
use Rattle.object_store.specs.Held.{IsLarge, Objects}
use Rattle.object_batch.specs.Needs.{IsHeldAs, Leads, NamesNext, Reference}
use Rattle.commit_walk.specs.Distinct.{AreDistinct}
use Rattle.remote_copy.specs.Causes.{CauseHolds}
use Rattle.remote_copy.specs.Closure.{IsFollowed, commit_named}
use Rattle.remote_copy.specs.declared.fault.CopyFault.TheVariants as fault

module _ (closed : Bool) (source target : Objects) (head : Name) where
  pub numbers : (count : ℕ) → CauseHolds closed source target head (fault.TooLarge count) → (count ≡ 4194305) ⊎ ((count ≡ 65537) ⊎ ((count ≡ 1048577) ⊎ (count ≡ 17)))
  numbers count (inl bytes) = inl bytes.0
  numbers count (inr (inl commits)) = inr (inl commits.0)
  numbers count (inr (inr (inl others))) = inr (inr (inl others.0))
  numbers count (inr (inr (inr trees))) = inr (inr (inr trees.0))

  pub bytes : CauseHolds closed source target head (fault.TooLarge 4194305) ↔ ((one : Reference) × IsFollowed closed source target head one × IsLarge (source one.name))
  bytes = (there, λ t. inl (refl, record { one = t.0; followed = t.1; large = t.2 }))
    where
      there : CauseHolds closed source target head (fault.TooLarge 4194305) → (one : Reference) × IsFollowed closed source target head one × IsLarge (source one.name)
      there (inl (is, h)) = (h.one, h.followed, h.large)
      there (inr (inl (is, h))) = absurd (omega (arith, is))
      there (inr (inr (inl (is, h)))) = absurd (omega (arith, is))
      there (inr (inr (inr (is, h)))) = absurd (omega (arith, is))

  pub commits : CauseHolds closed source target head (fault.TooLarge 65537) ↔ ((them : List Reference) × AreDistinct them × (65536 < length them)
      × ((one : Reference) → Contains them one → IsFollowed closed source target head one × IsHeldAs source one.name one.kind × (one.kind ≡ kinds.Commit)))
  commits = (there, λ t. inr (inl (refl, record { them = t.0; once = t.1; many = t.2; each = t.3 })))
    where
      there : CauseHolds closed source target head (fault.TooLarge 65537) → (them : List Reference) × AreDistinct them × (65536 < length them)
          × ((one : Reference) → Contains them one → IsFollowed closed source target head one × IsHeldAs source one.name one.kind × (one.kind ≡ kinds.Commit))
      there (inl (is, h)) = absurd (omega (arith, is))
      there (inr (inl (is, h))) = (h.them, h.once, h.many, h.each)
      there (inr (inr (inl (is, h)))) = absurd (omega (arith, is))
      there (inr (inr (inr (is, h)))) = absurd (omega (arith, is))

  pub others : CauseHolds closed source target head (fault.TooLarge 1048577) ↔ ((them : List Reference) × AreDistinct them × (1048576 < length them)
      × ((one : Reference) → Contains them one → IsFollowed closed source target head one × IsHeldAs source one.name one.kind × (one.kind ≢ kinds.Commit)))
  others = (there, λ t. inr (inr (inl (refl, record { them = t.0; once = t.1; many = t.2; each = t.3 }))))
    where
      there : CauseHolds closed source target head (fault.TooLarge 1048577) → (them : List Reference) × AreDistinct them × (1048576 < length them)
          × ((one : Reference) → Contains them one → IsFollowed closed source target head one × IsHeldAs source one.name one.kind × (one.kind ≢ kinds.Commit))
      there (inl (is, h)) = absurd (omega (arith, is))
      there (inr (inl (is, h))) = absurd (omega (arith, is))
      there (inr (inr (inl (is, h)))) = (h.them, h.once, h.many, h.each)
      there (inr (inr (inr (is, h)))) = absurd (omega (arith, is))

  pub trees : CauseHolds closed source target head (fault.TooLarge 17)
      ↔ ((commit : Name) × (tree : Reference) × (path : List Reference) × (last : Reference) × IsFollowed closed source target head (commit_named commit) × (tree.kind ≡ kinds.Tree)
      × NamesNext source (commit_named commit) tree × Leads source tree path last × All (λ (one : Reference). one.kind ≡ kinds.Tree) path × (16 < length path))
  trees = (there, λ t. inr (inr (inr (refl, record { commit = t.0; followed = t.4; tree = t.1; is_tree = t.5; names = t.6; path = t.2; last = t.3; leads = t.7; trees = t.8; deep = t.9 }))))
    where
      there : CauseHolds closed source target head (fault.TooLarge 17)
          → (commit : Name) × (tree : Reference) × (path : List Reference) × (last : Reference) × IsFollowed closed source target head (commit_named commit) × (tree.kind ≡ kinds.Tree)
          × NamesNext source (commit_named commit) tree × Leads source tree path last × All (λ (one : Reference). one.kind ≡ kinds.Tree) path × (16 < length path)
      there (inl (is, h)) = absurd (omega (arith, is))
      there (inr (inl (is, h))) = absurd (omega (arith, is))
      there (inr (inr (inl (is, h)))) = absurd (omega (arith, is))
      there (inr (inr (inr (is, h)))) = (h.commit, h.tree, h.path, h.last, h.followed, h.is_tree, h.names, h.leads, h.trees, h.deep)
