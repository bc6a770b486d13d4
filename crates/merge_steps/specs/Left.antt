-- What a merge leaves of an entity that it does not refuse.
use Rattle.std.specs.Prelude.{◌≡◌, ◌⊎◌, ℕ, List, [], ◌∷◌, Option, Some}
use Rattle.gb_text.specs.declared.id.Id.{Id}
use Rattle.gb_text.specs.declared.id.Name.{Name}
use Rattle.gb_store.specs.Files.{History, files_of}
use Rattle.gb_store.specs.Moments.{IsMoment}
use Rattle.object_store.specs.Held.{objects_after}
use Rattle.commit_walk.specs.Below.{IsBelow}
use Rattle.commit_walk.specs.Chain.{Meets}
use Rattle.ref_store.specs.Refs.{Head}
use Rattle.bug_ops.specs.Kind.{bug_kind}
use Rattle.identity.specs.Persons.{IsChain}
use Rattle.entity_merge.specs.Joins.{AreUnion, heads_in}
use Rattle.remote_name.specs.declared.remote.RemoteName.{RemoteName}
use Rattle.repo_state.specs.Answers.{IsHeadAt}
use Rattle.repo_state.specs.Sides.{head_at}
use Rattle.repo_state.specs.declared.side.Side.TheVariants as side
use Rattle.sync_steps.specs.Places.{local_side, tracking_side}
use Rattle.sync_steps.specs.declared.line.EntityWord.{EntityWord}
use Rattle.sync_steps.specs.declared.line.EntityWord.TheVariants as word

-- the local ref of a bug has a head, below which lie exactly the operation commits that lay below the local head or the tracked one; and the local head, if there was one, lies below it
pub record IsJoinOf (folder : List ℕ) (id : Id) (local : Option Name) (tracked : Name) (old new : History) : Type 0 where
  pub head : Name
  pub is_head : head_at (files_of new) folder side.Bugs id ≡ Head head
  pub union : AreUnion bug_kind (objects_after new folder) (head ∷ []) (objects_after old folder) (heads_in local) (tracked ∷ [])
  pub keeps : (low : Name) → local ≡ Some low → IsBelow (objects_after new folder) (head ∷ []) low

-- the local ref of an identity has a head, in whose chain are the tracked head and the local one, if there was one; it is the local one, and nothing was written, or the tracked one, with a chain of the identity
pub record IsLaterOf (folder : List ℕ) (id : Id) (local : Option Name) (tracked : Name) (old new : History) : Type 0 where
  pub head : Name
  pub is_head : head_at (files_of new) folder side.Identities id ≡ Head head
  pub has : Meets (objects_after new folder) head tracked
  pub keeps : (low : Name) → local ≡ Some low → Meets (objects_after new folder) head low
  pub either : ((local ≡ Some head) × (new ≡ old)) ⊎ ((head ≡ tracked) × IsChain (objects_after new folder) id head)

-- what is left of an entity, by its kind
abbrev pub IsLeft : EntityWord → List ℕ → Id → Option Name → Name → History → History → Type 0
IsLeft word.Identity folder id local tracked old new = IsLaterOf folder id local tracked old new
IsLeft word.Bug folder id local tracked old new = IsJoinOf folder id local tracked old new

-- between two moments of a merge this was left of an entity, by the heads that its refs had at first; and its local ref stands so in the end
pub record WasLeft (folder : List ℕ) (remote : RemoteName) (word : EntityWord) (id : Id) (old new : History) : Type 0 where
  pub local : Option Name
  pub is_local : IsHeadAt (files_of old) folder (local_side word) id local
  pub tracked : Name
  pub is_tracked : head_at (files_of old) folder (tracking_side remote word) id ≡ Head tracked
  pub before : History
  pub came : IsMoment old new before
  pub after : History
  pub goes : IsMoment before new after
  pub left : IsLeft word folder id local tracked before after
  pub stands : head_at (files_of new) folder (local_side word) id ≡ head_at (files_of after) folder (local_side word) id
