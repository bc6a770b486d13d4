-- The node of a commit that is held, in the data model of git-bug: its parents in order, and its pack.
use Rattle.std.specs.Prelude.{◌≡◌, ◌⊎◌, ℕ, List, map, Option, Some, option_and_then}
use Rattle.gb_text.specs.declared.id.Id.{Id}
use Rattle.gb_text.specs.declared.id.Name.{Name}
use Rattle.git_object.specs.declared.commit.Commit.{Commit}
use Rattle.object_store.specs.Held.{Objects}
use Rattle.object_store.specs.Typed.{commit_at, tree_at}
use Rattle.commit_walk.specs.Below.{IsBelow}
use Rattle.commit_pack.specs.Packs.{CommitPackFaultHolds, PackNeeds, pack_under}
use Rattle.commit_pack.specs.declared.fault.CommitPackFault.{CommitPackFault}
use Rattle.op_kind.specs.Meaning.{Meaning}
use Rattle.op_pack.specs.Heads.{edit_clock_of}
use Rattle.op_pack.specs.declared.pack.Pack.{Pack}
use Rattle.dag_entity.specs.declared.entity.Loaded.{Loaded}

-- a name below the heads holds this commit
pub record IsCommitBelow (objects : Objects) (heads : List Name) (name : Name) (commit : Commit) : Type 0 where
  pub below : IsBelow objects heads name
  pub held : commit_at objects name ≡ Some commit

-- the tree of a commit below the heads, or what the tree's file `ops` names
pub record IsPackNeeded (objects : Objects) (heads : List Name) (name : Name) : Type 0 where
  pub high : Name
  pub commit : Commit
  pub is : IsCommitBelow objects heads high commit
  pub needs : PackNeeds objects commit.tree name

-- an object that the entity at the heads needs: a commit below them, its tree, or what holds its pack
abbrev pub IsNeeded : Objects → List Name → Name → Type 0
IsNeeded objects heads name = IsBelow objects heads name ⊎ IsPackNeeded objects heads name

-- the edit clock that the tree of the commit under a name says
abbrev pub edit_at : Objects → Name → Option ℕ
edit_at objects name = option_and_then (λ (commit : Commit). option_and_then edit_clock_of (tree_at objects commit.tree)) (commit_at objects name)

module _ {Op State Row : Type 0} (k : Meaning Op State Row) where
  -- the pack of the commit under a name
  abbrev pub pack_at : Objects → Name → Option (Pack Op)
  pack_at objects name = option_and_then (λ (commit : Commit). pack_under k objects commit.tree) (commit_at objects name)

  -- a name holds a commit with these parents and this pack
  pub record IsNode (objects : Objects) (node : Loaded Op) : Type 0 where
    pub commit : Commit
    pub held : commit_at objects node.placed.commit ≡ Some commit
    pub parents : node.parents ≡ commit.parents
    pub pack : pack_under k objects commit.tree ≡ Some node.placed.pack

  -- the node of a commit below the heads
  pub record IsNodeBelow (objects : Objects) (heads : List Name) (node : Loaded Op) : Type 0 where
    pub below : IsBelow objects heads node.placed.commit
    pub is : IsNode objects node

  -- the fault keeps a commit below the heads from having a pack
  pub record HasPackFault (objects : Objects) (heads : List Name) (name : Name) (f : CommitPackFault) : Type 0 where
    pub commit : Commit
    pub is : IsCommitBelow objects heads name commit
    pub holds : CommitPackFaultHolds k objects commit.tree f

  -- the ids of a pack's operations, in order
  abbrev pub ids_of : Pack Op → List Id
  ids_of pack = map (λ (op : Op). (k.common_of op).place.id) pack.ops
