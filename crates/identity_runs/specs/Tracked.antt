-- Identities that folders have last seen at remotes, and the authors of bugs that they have last seen there.
use Rattle.std.specs.Prelude.{◌≡◌, ℕ, List, Contains}
use Rattle.gb_text.specs.Digits.{IsId}
use Rattle.gb_text.specs.declared.id.Id.{Id}
use Rattle.gb_text.specs.declared.id.Name.{Name}
use Rattle.gb_store.specs.Files.{Files}
use Rattle.object_store.specs.Held.{objects_in}
use Rattle.ref_store.specs.Refs.{Head}
use Rattle.identity.specs.Persons.{IsChain}
use Rattle.remote_name.specs.declared.remote.RemoteName.{RemoteName}
use Rattle.repo_state.specs.Sides.{head_at}
use Rattle.repo_state.specs.declared.side.Side.TheVariants as side
use Rattle.operation_origins.specs.Tracked.{TrackedAuthorsAreKnown}

-- the chain of each identity that one of these folders has last seen at a remote has no fault
abbrev pub SeenPeopleAreSound : Files → List (List ℕ) → Type 0
SeenPeopleAreSound files folders =
    (folder : List ℕ) (remote : RemoteName) (id : Id) (head : Name) → Contains folders folder → IsId id
    → head_at files folder (side.RemoteIdentities remote) id ≡ Head head → IsChain (objects_in files folder) id head

-- the author of each pack below a bug that one of these folders has last seen at a remote is known to it
abbrev pub SeenAuthorsAreKnown : Files → List (List ℕ) → Type 0
SeenAuthorsAreKnown files folders = (folder : List ℕ) (remote : RemoteName) → Contains folders folder → TrackedAuthorsAreKnown files folder remote
