-- What an exchange may write, by the files at that moment.
use Rattle.std.specs.Prelude.{◌≡◌, ◌⊎◌, ℕ, List}
use Rattle.gb_text.specs.Digits.{IsId}
use Rattle.gb_text.specs.declared.id.Id.{Id}
use Rattle.gb_text.specs.declared.id.Name.{Name}
use Rattle.gb_store.specs.Files.{Files}
use Rattle.gb_store.specs.declared.store.Change.{Change}
use Rattle.git_object.specs.declared.frame.Kind.TheVariants as kinds
use Rattle.object_batch.specs.Needs.{IsHeldAs, Reference}
use Rattle.object_store.specs.Held.{objects_in}
use Rattle.ref_store.specs.Refs.{Head}
use Rattle.ref_store.specs.Setting.{ref_write}
use Rattle.remote_copy.specs.Closure.{IsInClosure, StandsAlike}
use Rattle.remote_copy.specs.NeedWrites.{PutsOneAfterNeeds}
use Rattle.repo_state.specs.Sides.{head_at, ref_place}
use Rattle.remote_name.specs.declared.remote.RemoteName.{RemoteName}
use Rattle.sync_steps.specs.Places.{local_side, tracking_side}
use Rattle.sync_steps.specs.Pushing.{IsForward}
use Rattle.sync_steps.specs.declared.line.EntityWord.{EntityWord}

-- the tracking ref of an entity, set to the head that the peer's ref has: a commit that is held
pub record IsTrackingWrite (own peer : List ℕ) (remote : RemoteName) (files : Files) (change : Change) : Type 0 where
  pub word : EntityWord
  pub id : Id
  pub is_id : IsId id
  pub head : Name
  pub is_peers : head_at files peer (local_side word) id ≡ Head head
  pub held : IsHeldAs (objects_in files own) head kinds.Commit
  pub write : change ≡ ref_write own (ref_place (tracking_side remote word) id) head

-- the peer's ref of an entity, set to the head that the local ref has, over the head that it had; all that the head leads to stands there as here
pub record IsPeerWrite (own peer : List ℕ) (files : Files) (change : Change) : Type 0 where
  pub word : EntityWord
  pub id : Id
  pub is_id : IsId id
  pub head : Name
  pub is_local : head_at files own (local_side word) id ≡ Head head
  pub forward : IsForward (objects_in files own) (head_at files peer (local_side word) id) head
  pub alike : (one : Reference) → IsInClosure (objects_in files own) head one → StandsAlike (objects_in files own) (objects_in files peer) one
  pub write : change ≡ ref_write peer (ref_place (local_side word) id) head

-- a fetch writes objects of its own folder, each after all that it names, and tracking refs
abbrev pub MayFetch : List ℕ → List ℕ → RemoteName → Files → Change → Type 0
MayFetch own peer remote files change = PutsOneAfterNeeds own files change ⊎ IsTrackingWrite own peer remote files change

-- a push writes objects of the peer, each after all that it names, and refs of the peer
abbrev pub MayPush : List ℕ → List ℕ → Files → Change → Type 0
MayPush own peer files change = PutsOneAfterNeeds peer files change ⊎ IsPeerWrite own peer files change
