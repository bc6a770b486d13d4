-- The packs of an entity in their order, and the entity that is read.
use Rattle.std.specs.Prelude.{◌≡◌, ◌≤◌, ◌<◌, ◌+◌, ◌*◌, ℕ, List, filter, flat_map, length, All, nat_le, Contains, Some, Result, Ok, Err}
use Rattle.std.specs.List.{AllByRecursion}
use Rattle.gb_text.specs.declared.id.Id.{Id}
use Rattle.gb_text.specs.declared.id.Name.{Name}
use Rattle.object_store.specs.Held.{Objects}
use Rattle.commit_walk.specs.Below.{IsBelow}
use Rattle.commit_walk.specs.Distinct.{AreDistinct}
use Rattle.op_kind.specs.Meaning.{Meaning}
use Rattle.dag_entity.specs.Faults.{EntityFaultHolds, IsRootNode, IsValid}
use Rattle.dag_entity.specs.Nodes.{edit_at, pack_at}
use Rattle.dag_entity.specs.Order.{Rise, commits_of}
use Rattle.dag_entity.specs.Stops.{Refused}
use Rattle.dag_entity.specs.declared.entity.Entity.{Entity}
use Rattle.dag_entity.specs.declared.read.Clocks.{Clocks}
use Rattle.dag_entity.specs.declared.entity.Loaded.{Loaded}
use Rattle.dag_entity.specs.declared.entity.Placed.{Placed}
use Rattle.dag_entity.specs.declared.fault.EntityFault.{EntityFault}

-- the condition of a reading: there are one or two heads
abbrev pub AreOneOrTwo : List Name → Type 0
AreOneOrTwo heads = (1 ≤ length heads) × (length heads ≤ 2)

-- the greatest edit clock of a head
pub record IsGreatestEdit (objects : Objects) (heads : List Name) (edit : ℕ) : Type 0 where
  pub head : Name
  pub among : Contains heads head
  pub says : edit_at objects head ≡ Some edit
  pub most : (other : Name) (clock : ℕ) → Contains heads other → edit_at objects other ≡ Some clock → clock ≤ edit

-- at most so many objects were read for each of some names below the heads
pub record ReadsEach (objects : Objects) (heads : List Name) (most before after : ℕ) : Type 0 where
  pub names : List Name
  pub once : AreDistinct names
  pub each : (name : Name) → Contains names name → IsBelow objects heads name
  pub few : after ≤ before + most * length names

module _ {Op State Row : Type 0} (k : Meaning Op State Row) where
  -- all commits below the heads with their packs, merge commits included, each once, in order
  pub record AreAllInOrder (objects : Objects) (heads : List Name) (packs : List (Placed Op)) : Type 0 where
    pub all : (name : Name) → IsBelow objects heads name → Contains (commits_of packs) name
    pub only : (placed : Placed Op) → Contains packs placed → IsBelow objects heads placed.commit
    pub each : (placed : Placed Op) → Contains packs placed → pack_at k objects placed.commit ≡ Some placed.pack
    pub rise : Rise packs

  -- an operation commit: a commit below the heads whose pack has an operation
  pub record IsOperationCommit (objects : Objects) (heads : List Name) (placed : Placed Op) : Type 0 where
    pub below : IsBelow objects heads placed.commit
    pub has : pack_at k objects placed.commit ≡ Some placed.pack
    pub some : 0 < length placed.pack.ops

  -- all operation commits below the heads with their packs, each once, in order; the edges between commits have no part in it
  pub record AreOperationCommits (objects : Objects) (heads : List Name) (packs : List (Placed Op)) : Type 0 where
    pub all : (placed : Placed Op) → IsOperationCommit objects heads placed → Contains packs placed
    pub only : (placed : Placed Op) → Contains packs placed → IsOperationCommit objects heads placed
    pub rise : Rise packs

  -- The operations in order: those of the operation commits, written out one pack after the other. Each has its id, its author and its clocks in its place.
  pub record IsOperationList (objects : Objects) (heads : List Name) (ops : List Op) : Type 0 where
    pub packs : List (Placed Op)
    pub are : AreOperationCommits objects heads packs
    pub written_out : ops ≡ flat_map (λ (p : Placed Op). p.pack.ops) packs

  -- the operations of packs, one pack after the other
  abbrev pub ops_in : List (Placed Op) → List Op
  ops_in packs = flat_map (λ (p : Placed Op). p.pack.ops) packs

  -- the packs that have an operation
  abbrev pub with_operations : List (Placed Op) → List (Placed Op)
  with_operations packs = filter (λ (p : Placed Op). nat_le 1 (length p.pack.ops)) packs

  -- a root's create clock
  pub record IsRootClock (objects : Objects) (heads : List Name) (create : ℕ) : Type 0 where
    pub node : Loaded Op
    pub is : IsRootNode k objects heads node
    pub says : node.placed.pack.create ≡ Some create

  -- The entity of an id at these heads, with which nothing is wrong.
  pub record IsEntity (objects : Objects) (id : Id) (heads : List Name) (authors : List Id) (entity : Entity Op) : Type 0 where
    pub valid : IsValid k objects id heads authors
    pub id_is : entity.id ≡ id
    pub heads_are : entity.heads ≡ heads
    pub packs : AreAllInOrder objects heads entity.packs
    pub count : entity.commits ≡ length entity.packs
    pub edit : IsGreatestEdit objects heads entity.edit
    pub create : IsRootClock objects heads entity.create

  -- each operation of the packs keeps the rules of its kind
  abbrev pub KeepsRules : List (Placed Op) → Type 0
  KeepsRules packs = All (λ (p : Placed Op). AllByRecursion k.KeepsRules p.pack.ops) packs

  -- The answer to whether anything is wrong with the commits of an entity.
  abbrev pub JudgeAnswers : Objects → Id → List Name → List Id → Result Clocks EntityFault → Type 0
  JudgeAnswers objects id heads authors (Ok clocks) = IsValid k objects id heads authors × IsGreatestEdit objects heads clocks.edit × IsRootClock objects heads clocks.create
  JudgeAnswers objects id heads authors (Err f) = Refused (EntityFaultHolds k objects id heads authors) f

  -- The answer to a reading of an entity.
  abbrev pub EntityAnswers : Objects → Id → List Name → List Id → Result (Entity Op) EntityFault → Type 0
  EntityAnswers objects id heads authors (Ok entity) = IsEntity objects id heads authors entity
  EntityAnswers objects id heads authors (Err f) = Refused (EntityFaultHolds k objects id heads authors) f
