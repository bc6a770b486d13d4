-- A merge of a remote whose heads the folder has already.
use Rattle.std.specs.Prelude.{◌≡◌, ◌≤◌, ℕ, List, Contains, Some}
use Rattle.gb_text.specs.declared.id.Id.{Id}
use Rattle.gb_text.specs.declared.id.Name.{Name}
use Rattle.gb_store.specs.Files.{Files, History}
use Rattle.ref_store.specs.Refs.{Head}
use Rattle.remote_name.specs.declared.remote.RemoteName.{RemoteName}
use Rattle.repo_state.specs.Sides.{head_at}
use Rattle.repo_state.specs.declared.refs.EntityRef.{EntityRef}
use Rattle.repo_state.specs.declared.side.Side.{Side}
use Rattle.repo_state.specs.declared.side.Side.TheVariants as side

-- each head on one side is the head of the same id on another
abbrev pub HasHeadsOf : Files → List ℕ → Side → Side → Type 0
HasHeadsOf files folder tracked local = (id : Id) (name : Name) → head_at files folder tracked id ≡ Head name → head_at files folder local id ≡ Head name

-- each head that is tracked of a remote is the local one
pub record IsInStep (files : Files) (folder : List ℕ) (remote : RemoteName) : Type 0 where
  pub people : HasHeadsOf files folder (side.RemoteIdentities remote) side.Identities
  pub bugs : HasHeadsOf files folder (side.RemoteBugs remote) side.Bugs

-- nothing was written, and no object was read
pub record WasQuiet (old new : History) (before after : ℕ) : Type 0 where
  pub same : new ≡ old
  pub unread : after ≤ before

-- ---- parts

-- the head with which an entity was listed, if any, is the local one
abbrev pub IsKnownRef : Files → List ℕ → Side → EntityRef → Type 0
IsKnownRef files folder local entity = (name : Name) → entity.head ≡ Some name → head_at files folder local entity.id ≡ Head name

-- and so it is of each of these
abbrev pub AreKnownRefs : Files → List ℕ → Side → List EntityRef → Type 0
AreKnownRefs files folder local refs = (entity : EntityRef) → Contains refs entity → IsKnownRef files folder local entity
