-- The kinds of write of an exchange, with what is so of the identities where the ref of a bug is set.
use Rattle.std.specs.Prelude.{◌≡◌, ◌++◌, ◌⊎◌, true, ℕ, List}
use Rattle.gb_text.specs.Digits.{IsId}
use Rattle.gb_text.specs.declared.id.Id.{Id}
use Rattle.gb_text.specs.declared.id.Name.{Name}
use Rattle.gb_store.specs.Files.{Files, History, files_of}
use Rattle.gb_store.specs.Moments.{IsMoment}
use Rattle.gb_store.specs.declared.store.Change.{Change}
use Rattle.object_store.specs.Held.{objects_after}
use Rattle.ref_store.specs.Refs.{Head}
use Rattle.remote_copy.specs.Causes.{CauseHolds}
use Rattle.remote_copy.specs.NeedWrites.{PutsOneAfterNeeds}
use Rattle.remote_name.specs.declared.remote.RemoteName.{RemoteName}
use Rattle.repo_state.specs.Bugs.{IsLocal}
use Rattle.repo_state.specs.Sides.{head_at}
use Rattle.repo_state.specs.declared.side.Side.TheVariants as side
use Rattle.sync_steps.specs.Carrying.{fault_of}
use Rattle.sync_steps.specs.Writes.{IsPeerWrite, IsTrackingWrite}
use Rattle.sync_steps.specs.declared.line.CopyCause.{CopyCause}
use Rattle.sync_steps.specs.declared.line.EntityWord.TheVariants as word

-- ---- fetches

-- at a moment of a call so far, something kept a head from being copied
pub record HadCause (own peer : List ℕ) (entry now : History) (head : Name) : Type 0 where
  pub moment : History
  pub is_moment : IsMoment entry now moment
  pub why : CopyCause
  pub cause : CauseHolds true (objects_after moment peer) (objects_after moment own) head (fault_of why)

-- the tracking ref of each identity whose ref in the peer reads has the head that this has, but where something kept that head from being copied
abbrev pub ArePeopleTracked : List ℕ → List ℕ → RemoteName → History → History → Type 0
ArePeopleTracked own peer remote entry now =
    (person : Id) (head : Name) → IsId person → head_at (files_of now) peer side.Identities person ≡ Head head
    → (head_at (files_of now) own (side.RemoteIdentities remote) person ≡ Head head) ⊎ HadCause own peer entry now head

-- the head of a tracking ref, by the history at entry and the writes of the call so far
pub record IsTrackingHeadWrite (own peer : List ℕ) (remote : RemoteName) (entry : History) (earlier : List Change) (change : Change) : Type 0 where
  pub set : IsTrackingWrite own peer remote (files_of (earlier ++ entry)) change
  pub people : set.word ≡ word.Bug → ArePeopleTracked own peer remote entry (earlier ++ entry)

-- the writes of a fetch: objects of the own folder, each after all that it names, and heads of tracking refs
abbrev pub FetchWrites : List ℕ → List ℕ → RemoteName → History → List Change → Change → Type 0
FetchWrites own peer remote entry earlier change =
    PutsOneAfterNeeds own (files_of (earlier ++ entry)) change ⊎ IsTrackingHeadWrite own peer remote entry earlier change

-- ---- pushes

-- each local identity has a ref in the peer, which reads
abbrev pub ArePeopleThere : List ℕ → List ℕ → Files → Type 0
ArePeopleThere own peer files =
    (person : Id) → IsLocal files own person → (head : Name) × (head_at files peer side.Identities person ≡ Head head)

-- the head of a ref of the peer
pub record IsPeerHeadWrite (own peer : List ℕ) (files : Files) (change : Change) : Type 0 where
  pub set : IsPeerWrite own peer files change
  pub people : set.word ≡ word.Bug → ArePeopleThere own peer files

-- the writes of a push: objects of the peer, each after all that it names, and heads of its refs
abbrev pub PushWrites : List ℕ → List ℕ → Files → Change → Type 0
PushWrites own peer files change = PutsOneAfterNeeds peer files change ⊎ IsPeerHeadWrite own peer files change
