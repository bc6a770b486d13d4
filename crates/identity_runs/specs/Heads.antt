-- The heads that folders have of identities, and the home of each.
use Rattle.std.specs.Prelude.{◌≡◌, ◌⊎◌, ⊤, ℕ, List, [], ◌∷◌, Contains}
use Rattle.gb_text.specs.Digits.{IsId}
use Rattle.gb_text.specs.declared.id.Id.{Id}
use Rattle.gb_text.specs.declared.id.Name.{Name}
use Rattle.gb_store.specs.Files.{Files}
use Rattle.object_store.specs.Held.{Objects, objects_in}
use Rattle.commit_walk.specs.Below.{IsBelow}
use Rattle.ref_store.specs.Refs.{Head}
use Rattle.repo_state.specs.Sides.{head_at}
use Rattle.repo_state.specs.declared.side.Side.{Side}
use Rattle.repo_state.specs.declared.side.Side.TheVariants as side

-- a side of identities: the folder's own, or those that it has last seen at a remote
abbrev pub IsOfPeople : Side → Type 0
IsOfPeople side.Identities = ⊤
IsOfPeople (side.RemoteIdentities remote) = ⊤
IsOfPeople side.Bugs = ⊥
IsOfPeople (side.RemoteBugs remote) = ⊥

-- one of these folders has this head of the identity with this id, or has last seen it at a remote
pub record IsThere (files : Files) (folders : List (List ℕ)) (id : Id) (head : Name) : Type 0 where
  pub folder : List ℕ
  pub is : Contains folders folder
  pub of : Side
  pub of_people : IsOfPeople of
  pub is_head : head_at files folder of id ≡ Head head

-- a folder is the home of an identity: each head of it that is there is at or below the one that this folder has
pub record IsHome (files : Files) (folders : List (List ℕ)) (id : Id) (home : List ℕ) : Type 0 where
  pub is : Contains folders home
  pub top : Name
  pub is_top : head_at files home side.Identities id ≡ Head top
  pub below : (head : Name) → IsThere files folders id head → IsBelow (objects_in files home) (top ∷ []) head

-- of two heads, one is at or below the other
abbrev pub AreInLine : Objects → Name → Name → Type 0
AreInLine objects one two = IsBelow objects (one ∷ []) two ⊎ IsBelow objects (two ∷ []) one

-- no two heads of an identity diverge: it has a home, and there one is at or below the other
abbrev pub NoneDiverge : Files → List (List ℕ) → Type 0
NoneDiverge files folders =
    (id : Id) (one two : Name) → IsId id → IsThere files folders id one → IsThere files folders id two
    → (home : List ℕ) × IsHome files folders id home × AreInLine (objects_in files home) one two

-- and so it is in each of these folders, of heads that the folder has, or has last seen at remotes
abbrev pub NoneDivergeInOne : Files → List (List ℕ) → Type 0
NoneDivergeInOne files folders =
    (folder : List ℕ) (id : Id) (one two : Name) → Contains folders folder → IsId id → IsThere files (folder ∷ []) id one → IsThere files (folder ∷ []) id two
    → AreInLine (objects_in files folder) one two
