-- What an entity's commits are like, and a commit over its heads with the entity that it makes.
use Rattle.std.specs.Prelude.{◌≡◌, ◌≤◌, ◌<◌, ◌+◌, ℕ, true, List, [], ◌∷◌, ◌++◌, length, All, Contains, Some}
use Rattle.std.specs.List.{AllByRecursion}
use Rattle.gb_text.specs.declared.id.Id.{Id}
use Rattle.gb_text.specs.declared.id.Name.{Name}
use Rattle.git_object.specs.declared.commit.Commit.{Commit}
use Rattle.lamport.specs.declared.clock.TheConstants.{JUMP}
use Rattle.object_store.specs.Held.{Objects}
use Rattle.object_store.specs.Typed.{blob_at, commit_at}
use Rattle.commit_walk.specs.Distinct.{AreDistinct}
use Rattle.commit_walk.specs.declared.below.TheConstants.{MOST_COMMITS}
use Rattle.commit_pack.specs.Packs.{NamesOps}
use Rattle.op_kind.specs.Meaning.{Meaning}
use Rattle.dag_entity.specs.Faults.{IsRootCommit, IsRootNode}
use Rattle.dag_entity.specs.Judging.{OpensWell, later_ops}
use Rattle.dag_entity.specs.Nodes.{IsNode, edit_at, ids_of}
use Rattle.dag_entity.specs.declared.entity.Entity.{Entity}
use Rattle.dag_entity.specs.declared.entity.Loaded.{Loaded}
use Rattle.dag_entity.specs.declared.entity.Placed.{Placed}

-- a commit below the heads and its parent, each with an edit clock, of which the commit's is greater
pub record ClockRises (objects : Objects) (high low : Name) : Type 0 where
  pub above : ℕ
  pub beneath : ℕ
  pub says_above : edit_at objects high ≡ Some above
  pub says_beneath : edit_at objects low ≡ Some beneath
  pub rises : beneath < above

-- a name holds a commit, and the file `ops` of its tree has this text
pub record HasPackText (objects : Objects) (name : Name) (text : List ℕ) : Type 0 where
  pub commit : Commit
  pub held : commit_at objects name ≡ Some commit
  pub ops : Name
  pub names : NamesOps objects commit.tree ops
  pub holds : blob_at objects ops ≡ Some text

module _ {Op State Row : Type 0} (k : Meaning Op State Row) where
  -- the one commit below the heads without parents, with whose pack the entity of the id begins
  pub record BeginsOnce (objects : Objects) (heads : List Name) (id : Id) (create : ℕ) : Type 0 where
    pub root : Loaded Op
    pub is : IsRootNode k objects heads root
    pub only : (name : Name) → IsRootCommit objects heads name → name ≡ root.placed.commit
    pub opens : OpensWell k id root.placed.pack create

  -- what a commit without parents must meet, to begin the entity of an id
  pub record Begins (objects : Objects) (id : Id) (authors : List Id) (node : Loaded Op) (create : ℕ) : Type 0 where
    -- its name holds a commit with its pack, and without parents
    pub is : IsNode k objects node
    pub root : node.parents ≡ []
    -- it has a create clock, and its first operation may be first and has the id
    pub opens : OpensWell k id node.placed.pack create
    -- each operation behind the first may follow
    pub follow : AllByRecursion (λ (op : Op). k.is_following op ≡ true) (later_ops k true node.placed.pack.ops)
    -- none of its operations comes twice
    pub once : AreDistinct (ids_of k node.placed.pack)
    -- its author is one of the authors
    pub known : Contains authors node.placed.pack.author

  -- what a commit over the heads of an entity with these packs must meet
  pub record Extends (objects : Objects) (heads : List Name) (authors : List Id) (packs : List (Placed Op)) (node : Loaded Op) : Type 0 where
    -- its name holds a commit with its parents and its pack, and the parents are the heads
    pub is : IsNode k objects node
    pub over : node.parents ≡ heads
    -- its edit clock is above those of the heads, and near that of a single one
    pub above : (head : Name) (edit : ℕ) → Contains heads head → edit_at objects head ≡ Some edit → edit < node.placed.pack.edit
    pub near : (head : Name) (edit : ℕ) → heads ≡ head ∷ [] → edit_at objects head ≡ Some edit → node.placed.pack.edit ≤ edit + JUMP
    -- over two heads it has no operation
    pub merge : 2 ≤ length heads → length node.placed.pack.ops ≡ 0
    -- each of its operations may stand behind others
    pub follow : All (λ (op : Op). k.is_following op ≡ true) node.placed.pack.ops
    -- none of its operations comes twice, and none is one of the entity's
    pub once : AreDistinct (ids_of k node.placed.pack)
    pub fresh : (placed : Placed Op) (id : Id) → Contains packs placed → Contains (ids_of k placed.pack) id → Contains (ids_of k node.placed.pack) id → ⊥
    -- its author is one of the authors
    pub known : Contains authors node.placed.pack.author
    -- there is room for it
    pub few : length packs < MOST_COMMITS

-- the entity of an id with one commit, its root
abbrev pub begun : {Op : Type 0} → Id → Loaded Op → ℕ → Entity Op
begun id node create = record {
  id = id;
  heads = node.placed.commit ∷ [];
  edit = node.placed.pack.edit;
  create = create;
  commits = 1;
  packs = node.placed ∷ [];
}

-- the entity with one commit more: its only head, whose pack comes last
abbrev pub extended : {Op : Type 0} → Entity Op → Loaded Op → Entity Op
extended entity node = record {
  id = entity.id;
  heads = node.placed.commit ∷ [];
  edit = node.placed.pack.edit;
  create = entity.create;
  commits = entity.commits + 1;
  packs = entity.packs ++ node.placed ∷ [];
}
