-- In a sound folder all is held that the heads of its refs lead to.
use Rattle.std.proofs.Common.{◌≡◌, ◌+◌, ℕ, List, [], ◌∷◌, Some, inl, inr, refl, subst}
use Rattle.gb_text.specs.Digits.{IsId}
use Rattle.gb_text.specs.declared.id.Id.{Id}
use Rattle.gb_text.specs.declared.id.Name.{Name}
use Rattle.gb_store.specs.Files.{Files}
use Rattle.git_object.specs.Grammar.{kind_of}
use Rattle.git_object.specs.declared.frame.Kind.TheVariants as kinds
use Rattle.git_object.specs.declared.object.Object.{Object}
use Rattle.git_object.specs.declared.object.Object.TheVariants as object
use Rattle.object_store.specs.Held.{Objects, object_at, objects_in}
use Rattle.object_store.specs.Typed.{CannotReadAs, HoldsAs, as_commit}
use Rattle.object_store.specs.declared.fault.KindFault.{KindFault}
use Rattle.object_store.specs.declared.fault.KindFault.TheVariants as kind
use Rattle.object_store.proofs.FaultLemmas.{holds_as_or_fails}
use Rattle.object_store.proofs.GrowthLemmas.{bind-some}
use Rattle.object_batch.specs.Needs.{IsHeldAs, LeadsTo, Reference}
use Rattle.object_batch.proofs.ClashLemmas.{Contains-first}
use Rattle.object_batch.proofs.LeadLemmas.{led_to_held}
use Rattle.object_store.specs.declared.read.TheConstants.{MOST_BYTES}
use Rattle.commit_walk.specs.Below.{IsBelow, head}
use Rattle.ref_store.specs.Refs.{Head}
use Rattle.dag_entity.specs.Faults.{EntityFaultHolds}
use Rattle.dag_entity.specs.declared.fault.EntityFault.TheVariants as fault
use Rattle.identity.proofs.MadeLemmas.{head_held}
use Rattle.repo_state.specs.Sides.{head_at}
use Rattle.repo_state.specs.Sound.{HasNoFault, IsSound, IsSoundBug, IsSoundIdentity, IsSoundTracking}
use Rattle.repo_state.specs.Sound as parts
use Rattle.repo_state.specs.declared.side.Side.{Side}
use Rattle.repo_state.specs.declared.side.Side.TheVariants as side

-- what holds a commit is held as one
held_as_commit : (objects : Objects) (name : Name) → HoldsAs as_commit objects name → IsHeldAs objects name kinds.Commit
held_as_commit objects name (commit, is) =
    let at = bind-some as_commit (object_at objects name) commit is in
    record { object = at.0; is = at.1; is_kind = each at.0 at.2 }
  where
    each : (o : Object) → as_commit o ≡ Some commit → kind_of o ≡ kinds.Commit
    each (object.Blob content) e = absurd (cc)
    each (object.Tree tree) e = absurd (cc)
    each (object.Commit other) e = refl

-- the head of a bug with which nothing is wrong is a commit that is held
bug_head_held : (objects : Objects) (id : Id) (name : Name) → HasNoFault objects id name → IsHeldAs objects name kinds.Commit
unfolding EntityFaultHolds
bug_head_held objects id name none = elim (holds_as_or_fails as_commit objects name) [
  | inl holds ↦ held_as_commit objects name holds
  | inr fails ↦ absurd (never fails.0 fails.1)
]
  where
    below : IsBelow objects (name ∷ []) name
    below = head (Contains-first name [])

    never : (f : KindFault) → CannotReadAs as_commit objects name f → ⊥
    never kind.Memory h = h
    never kind.Disk h = h
    never (kind.Missing n) h = none (fault.Missing name) (λ author e. cc e) (inl below, h.1)
    never (kind.Damaged n) h = none (fault.Damaged name) (λ author e. cc e) (inl below, h.1)
    never (kind.Large n) h = none (fault.TooLarge (MOST_BYTES + 1)) (λ author e. cc e) (inr (inr (refl, (name, inl below, h.1))))
    never (kind.OtherKind n) h = none (fault.NotCommit name) (λ author e. cc e) (below, h.1)

module _ (folder : List ℕ) (files : Files) (sound : IsSound folder files) where
  -- the head of each ref is a commit that is held
  head_is_held : (of : Side) (id : Id) (name : Name) → IsId id → head_at files folder of id ≡ Head name → IsHeldAs (objects_in files folder) name kinds.Commit
  head_is_held side.Bugs id name is at =
      bug_head_held (objects_in files folder) id name (subst (IsSoundBug (objects_in files folder) id) at (sound parts.Bugs id is))
  head_is_held side.Identities id name is at =
      head_held (objects_in files folder) id name (subst (IsSoundIdentity (objects_in files folder) id) at (sound parts.Identities id is))
  head_is_held (side.RemoteBugs remote) id name is at =
      held_as_commit (objects_in files folder) name (subst (IsSoundTracking (objects_in files folder)) at (sound parts.Tracking remote id is).0)
  head_is_held (side.RemoteIdentities remote) id name is at =
      held_as_commit (objects_in files folder) name (subst (IsSoundTracking (objects_in files folder)) at (sound parts.Tracking remote id is).1)

  -- and so is all that it leads to
  pub led_from_heads : (of : Side) (id : Id) (name : Name) (one : Reference) → IsId id → head_at files folder of id ≡ Head name
      → LeadsTo (objects_in files folder) (record { name = name; kind = kinds.Commit }) one → IsHeldAs (objects_in files folder) one.name one.kind
  led_from_heads of id name one is at (path, leads) =
      led_to_held (objects_in files folder) (sound parts.Objects).whole (record { name = name; kind = kinds.Commit }) path one (head_is_held of id name is at) leads
