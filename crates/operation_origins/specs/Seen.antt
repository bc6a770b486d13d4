-- What folders have last seen of bugs, with nothing wrong.
use Rattle.std.specs.Prelude.{◌≡◌, ℕ, List, Contains}
use Rattle.gb_text.specs.Digits.{IsId}
use Rattle.gb_text.specs.declared.id.Id.{Id}
use Rattle.gb_text.specs.declared.id.Name.{Name}
use Rattle.gb_store.specs.Files.{Files}
use Rattle.object_store.specs.Held.{objects_in}
use Rattle.ref_store.specs.Refs.{Head}
use Rattle.remote_name.specs.declared.remote.RemoteName.{RemoteName}
use Rattle.repo_state.specs.Sides.{head_at}
use Rattle.repo_state.specs.Sound.{HasNoFault}
use Rattle.repo_state.specs.declared.side.Side.TheVariants as side

-- nothing is wrong with what one of these folders has last seen of a bug at a remote, but perhaps that an author is unknown
abbrev pub SeenAreSound : Files → List (List ℕ) → Type 0
SeenAreSound files folders =
    (folder : List ℕ) (remote : RemoteName) (id : Id) (head : Name) → Contains folders folder → IsId id
    → head_at files folder (side.RemoteBugs remote) id ≡ Head head → HasNoFault (objects_in files folder) id head
