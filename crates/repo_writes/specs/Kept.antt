-- What writes leave of a folder: no object is lost, everything below the head of an identity or of a bug stays below it, and no clock falls.
use Rattle.std.specs.Prelude.{◌≡◌, ◌≤◌, ⊤, List, [], ◌∷◌, ℕ}
use Rattle.gb_text.specs.Digits.{IsId}
use Rattle.gb_text.specs.declared.id.Id.{Id}
use Rattle.gb_text.specs.declared.id.Name.{Name}
use Rattle.gb_store.specs.Files.{Files}
use Rattle.object_store.specs.Growth.{OnlyGrew}
use Rattle.object_store.specs.Held.{objects_in}
use Rattle.commit_walk.specs.Below.{IsBelow}
use Rattle.ref_store.specs.Refs.{Head}
use Rattle.repo_state.specs.Clocks.{clock_at}
use Rattle.repo_state.specs.Sides.{head_at}
use Rattle.repo_state.specs.declared.clocks.ClockFile.{ClockFile}
use Rattle.repo_state.specs.declared.side.Side.{Side}
use Rattle.repo_state.specs.declared.side.Side.TheVariants as side

-- a side of the folder's own heads, and not of a remote's
abbrev pub IsOwnSide : Side → Type 0
IsOwnSide side.Bugs = ⊤
IsOwnSide side.Identities = ⊤
IsOwnSide (side.RemoteBugs remote) = ⊥
IsOwnSide (side.RemoteIdentities remote) = ⊥

-- an identity or a bug has a head, and a name lies below it in the graph of commits
pub record KeepsBelow (folder : List ℕ) (files : Files) (of : Side) (id : Id) (name : Name) : Type 0 where
  pub head : Name
  pub is_head : head_at files folder of id ≡ Head head
  pub below : IsBelow (objects_in files folder) (head ∷ []) name

-- no object of a folder was lost; everything that lay below the head of one of its identities or bugs lies below the head
-- that this has now; and no clock fell
pub record LosesNothing (folder : List ℕ) (old new : Files) : Type 0 where
  pub objects : OnlyGrew (objects_in old folder) (objects_in new folder)
  pub heads : (of : Side) → IsOwnSide of → (id : Id) → IsId id → (head name : Name) → head_at old folder of id ≡ Head head
      → IsBelow (objects_in old folder) (head ∷ []) name → KeepsBelow folder new of id name
  pub clocks : (which : ClockFile) → clock_at old folder which ≤ clock_at new folder which
