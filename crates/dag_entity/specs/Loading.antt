-- Commits that a walk met, with their packs.
use Rattle.std.specs.Prelude.{◌≡◌, List, length, map, Contains, Some, Result, Ok, Err, Vec}
use Rattle.std.specs.declared.alloc.Global.{Global}
use Rattle.gb_text.specs.declared.id.Name.{Name}
use Rattle.object_store.specs.Held.{Objects}
use Rattle.commit_walk.specs.Below.{IsBelow}
use Rattle.commit_walk.specs.Distinct.{AreDistinct}
use Rattle.commit_walk.specs.declared.below.Met.{Met}
use Rattle.commit_pack.specs.Packs.{CommitPackFaultHolds, pack_under}
use Rattle.commit_pack.specs.declared.fault.CommitPackFault.{CommitPackFault}
use Rattle.dag_graph.specs.declared.node.Node.{Node}
use Rattle.op_kind.specs.Meaning.{Meaning}
use Rattle.dag_entity.specs.Nodes.{IsNodeBelow}
use Rattle.dag_entity.specs.Stops.{Refused, pack_stop}
use Rattle.dag_entity.specs.declared.entity.Loaded.{Loaded}
use Rattle.dag_entity.specs.declared.entity.Placed.{Placed}
use Rattle.dag_entity.specs.declared.fault.EntityFault.{EntityFault}

-- a commit's name and its parents
pub record Lineage : Type 0 where
  pub name : Name
  pub parents : List Name

abbrev pub lineage_of_met : Met → Lineage
lineage_of_met met = record { name = met.name; parents = met.parents }

abbrev pub lineage_of_loaded : {Op : Type 0} → Loaded Op → Lineage
lineage_of_loaded loaded = record { name = loaded.placed.commit; parents = loaded.parents }

-- the commit with its pack
abbrev pub placed_of : {Op : Type 0} → Loaded Op → Placed Op
placed_of loaded = loaded.placed

abbrev pub loaded_names : {Op : Type 0} → List (Loaded Op) → List Name
loaded_names loaded = map (λ one. one.placed.commit) loaded

-- the node of the commit in a graph
abbrev pub node_of : {Op : Type 0} → Loaded Op → Node
node_of loaded = record { name = loaded.placed.commit; parents = loaded.parents; edit = loaded.placed.pack.edit; count = length loaded.placed.pack.ops }

module _ {Op State Row : Type 0} (k : Meaning Op State Row) where
  -- a commit that was met, with the pack under its tree
  pub record IsLoaded (objects : Objects) (met : Met) (loaded : Loaded Op) : Type 0 where
    pub lineage : lineage_of_loaded loaded ≡ lineage_of_met met
    pub has : pack_under k objects met.tree ≡ Some loaded.placed.pack

  -- one of the commits that were met, with its pack
  pub record IsLoadedOf (objects : Objects) (walk : List Met) (loaded : Loaded Op) : Type 0 where
    pub met : Met
    pub among : Contains walk met
    pub is : IsLoaded objects met loaded

  -- each is one of the commits that were met, with its pack
  abbrev pub AreLoadedOf : Objects → List Met → List (Loaded Op) → Type 0
  AreLoadedOf objects walk loaded = (one : Loaded Op) → Contains loaded one → IsLoadedOf objects walk one

  -- the fault keeps one of the commits that were met from having a pack
  pub record CannotLoad (objects : Objects) (walk : List Met) (f : EntityFault) : Type 0 where
    pub met : Met
    pub among : Contains walk met
    pub stop : CommitPackFault
    pub holds : CommitPackFaultHolds k objects met.tree stop
    pub is : f ≡ pack_stop met.name stop

  -- the fault keeps the commit from having a pack
  abbrev pub LoadFails : Objects → Met → EntityFault → Type 0
  LoadFails objects met f = (stop : CommitPackFault) × CommitPackFaultHolds k objects met.tree stop × (f ≡ pack_stop met.name stop)

  -- exactly the commits below the heads, each once, with their parents and packs
  pub record AreAllLoaded (objects : Objects) (heads : List Name) (loaded : List (Loaded Op)) : Type 0 where
    pub all : (name : Name) → IsBelow objects heads name → Contains (loaded_names loaded) name
    pub each : (one : Loaded Op) → Contains loaded one → IsNodeBelow k objects heads one
    pub once : AreDistinct (loaded_names loaded)

  -- the answer to a read of the pack of one
  abbrev pub LoadAnswers : Objects → Met → Result (Loaded Op) EntityFault → Type 0
  LoadAnswers objects met (Ok loaded) = IsLoaded objects met loaded
  LoadAnswers objects met (Err f) = Refused (LoadFails objects met) f

  -- the answer to a read of the packs of all
  abbrev pub AllLoadAnswers : Objects → List Met → Result (Vec (Loaded Op) Global) EntityFault → Type 0
  AllLoadAnswers objects walk (Ok loaded) = AreLoadedOf objects walk loaded.items
  AllLoadAnswers objects walk (Err f) = Refused (CannotLoad objects walk) f
