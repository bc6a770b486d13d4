-- Faults that are limits alone, and operations that stand once below two heads.
use Rattle.std.specs.Prelude.{◌≡◌, ◌+◌, ⊤, [], ◌∷◌, Contains}
use Rattle.gb_text.specs.declared.id.Id.{Id}
use Rattle.gb_text.specs.declared.id.Name.{Name}
use Rattle.object_store.specs.Held.{Objects}
use Rattle.commit_walk.specs.declared.below.TheConstants.{MOST_COMMITS}
use Rattle.op_kind.specs.Meaning.{Meaning}
use Rattle.dag_entity.specs.Entities.{IsOperationCommit}
use Rattle.dag_entity.specs.Nodes.{ids_of}
use Rattle.dag_entity.specs.declared.entity.Placed.{Placed}
use Rattle.dag_entity.specs.declared.fault.EntityFault.{EntityFault}
use Rattle.dag_entity.specs.declared.fault.EntityFault.TheVariants as fault

-- a fault is a limit alone: there are too many commits, with the merge commit that two heads need, or one of these has the greatest clock
abbrev pub IsLimit : EntityFault → Type 0
IsLimit (fault.TooLarge count) = count ≡ MOST_COMMITS + 1
IsLimit (fault.ClockFull name) = ⊤
IsLimit _ = ⊥

module _ {Op State Row : Type 0} (k : Meaning Op State Row) where
  -- an operation's id that stands below each of two heads stands below both in one commit with one pack
  abbrev pub StandOnceBelow : Objects → Name → Name → Type 0
  StandOnceBelow objects one two =
      (a b : Placed Op) (id : Id) → IsOperationCommit k objects (one ∷ []) a → IsOperationCommit k objects (two ∷ []) b
      → Contains (ids_of k a.pack) id → Contains (ids_of k b.pack) id → a ≡ b
