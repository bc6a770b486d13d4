-- The join of a local head, or none, and a remote head of one entity.
use Rattle.std.specs.Prelude.{◌≡◌, ◌⊎◌, ◌↔◌, ⊤, ℕ, List, [], ◌∷◌, All, Option, Some, None, Result, Ok, Err}
use Rattle.gb_text.specs.declared.id.Id.{Id}
use Rattle.gb_text.specs.declared.id.Name.{Name}
use Rattle.object_store.specs.Held.{Objects}
use Rattle.object_store.specs.Texts.{IsShort}
use Rattle.commit_walk.specs.Below.{IsBelow}
use Rattle.op_kind.specs.Meaning.{Meaning}
use Rattle.dag_entity.specs.Entities.{IsEntity, IsOperationCommit, IsRootClock}
use Rattle.dag_entity.specs.Faults.{AreApart, EntityFaultHolds}
use Rattle.dag_entity.specs.Joining.{IsMergeTime, merge_name, merge_node, merge_objects}
use Rattle.dag_entity.specs.Nodes.{IsNode, edit_at}
use Rattle.dag_entity.specs.declared.entity.Entity.{Entity}
use Rattle.dag_entity.specs.declared.entity.Placed.{Placed}
use Rattle.entity_merge.specs.declared.fault.MergeFault.{MergeFault}
use Rattle.entity_merge.specs.declared.fault.MergeFault.TheVariants as stop
use Rattle.entity_merge.specs.declared.plan.MergePlan.{MergePlan}
use Rattle.entity_merge.specs.declared.word.Merged.{Merged}
use Rattle.entity_merge.specs.declared.word.Merged.TheVariants as merged

-- ---- the heads

-- a head that may be missing
abbrev pub heads_in : Option Name → List Name
heads_in None = []
heads_in (Some head) = head ∷ []

-- the heads that are joined: the local one, if there is one, and the remote one
abbrev pub both_heads : Option Name → Name → List Name
both_heads None remote = remote ∷ []
both_heads (Some local) remote = local ∷ remote ∷ []

-- the remote head is the local one, or lies below it
abbrev pub IsKnown : Objects → Option Name → Name → Type 0
IsKnown objects local remote = IsBelow objects (heads_in local) remote

-- ---- the word

-- what the join does, and which head results; of a merge commit any name
abbrev pub HasWord : Objects → Option Name → Name → Merged → Type 0
HasWord objects local remote merged.Nothing = IsKnown objects local remote
HasWord objects None remote (merged.New head) = head ≡ remote
HasWord objects (Some local) remote (merged.New head) = ⊥
HasWord objects None remote (merged.Forward head) = ⊥
HasWord objects (Some local) remote (merged.Forward head) = (head ≡ remote) × IsBelow objects (remote ∷ []) local × (IsKnown objects (Some local) remote → ⊥)
HasWord objects None remote (merged.Joined head) = ⊥
HasWord objects (Some local) remote (merged.Joined head) = AreApart objects (local ∷ remote ∷ []) local remote

-- the resulting head
abbrev pub head_of : Option Name → Merged → Option Name
head_of local (merged.New head) = Some head
head_of local merged.Nothing = local
head_of local (merged.Forward head) = Some head
head_of local (merged.Joined head) = Some head

-- a fact of the local head, where a merge commit joins both
abbrev pub IfJoined : Option Name → Merged → (Name → Type 0) → Type 0
IfJoined (Some local) (merged.Joined head) P = P local
IfJoined _ _ P = ⊤

-- a fact of the local head, where it stays
abbrev pub IfNothing : Option Name → Merged → (Name → Type 0) → Type 0
IfNothing (Some local) merged.Nothing P = P local
IfNothing _ _ P = ⊤

module _ {Op State Row : Type 0} (k : Meaning Op State Row) where
  -- ---- what a join does

  -- the remote head is taken as it is
  pub record TakesRemote (objects : Objects) (id : Id) (local : Option Name) (remote : Name) (authors : List Id) (edit create : ℕ) (texts : List (List ℕ)) : Type 0 where
    -- nothing is wrong with both heads together
    pub entity : Entity Op
    pub is : IsEntity k objects id (both_heads local remote) authors entity
    -- the clocks are those of the remote head and of its root
    pub edit_is : edit_at objects remote ≡ Some edit
    pub create_is : IsRootClock k objects (remote ∷ []) create
    pub no_texts : texts ≡ []

  -- a merge commit joins both heads
  pub record JoinsBoth (objects : Objects) (id : Id) (local remote : Name) (author : Id) (authors : List Id) (clock now : ℕ) (head : Name) (edit create : ℕ) (texts : List (List ℕ)) : Type 0 where
    -- nothing is wrong with both heads together
    pub entity : Entity Op
    pub is : IsEntity k objects id (local ∷ remote ∷ []) authors entity
    -- the commit and its objects
    pub edit_is : IsMergeTime objects local remote clock edit
    pub create_is : create ≡ entity.create
    pub head_is : head ≡ merge_name k local remote author edit now
    pub texts_are : texts ≡ merge_objects k local remote author edit now
    pub short : All IsShort texts

  -- what a plan says beside its word
  abbrev pub DoesWord : Objects → Id → Option Name → Name → Id → List Id → ℕ → ℕ → Merged → ℕ → ℕ → List (List ℕ) → Type 0
  DoesWord objects id local remote author authors clock now merged.Nothing edit create texts = (edit ≡ 0) × (create ≡ 0) × (texts ≡ [])
  DoesWord objects id local remote author authors clock now (merged.New head) edit create texts = TakesRemote objects id local remote authors edit create texts
  DoesWord objects id local remote author authors clock now (merged.Forward head) edit create texts = TakesRemote objects id local remote authors edit create texts
  DoesWord objects id None remote author authors clock now (merged.Joined head) edit create texts = ⊥
  DoesWord objects id (Some local) remote author authors clock now (merged.Joined head) edit create texts =
      JoinsBoth objects id local remote author authors clock now head edit create texts

  -- The answer to how two heads are to be joined: the word that holds, with what it does; or what is wrong with both heads together, where the remote head is not known.
  abbrev pub PlanAnswers : Objects → Id → Option Name → Name → Id → List Id → ℕ → ℕ → Result MergePlan MergeFault → Type 0
  PlanAnswers objects id local remote author authors clock now (Ok plan) =
      HasWord objects local remote plan.merged × DoesWord objects id local remote author authors clock now plan.merged plan.edit plan.create plan.objects
  PlanAnswers objects id local remote author authors clock now (Err stop.Memory) = ⊤
  PlanAnswers objects id local remote author authors clock now (Err stop.Disk) = ⊤
  PlanAnswers objects id local remote author authors clock now (Err (stop.Invalid f)) =
      (IsKnown objects local remote → ⊥) × EntityFaultHolds k objects id (both_heads local remote) authors f
  PlanAnswers objects id local remote author authors clock now (Err (stop.Taken name)) = ⊥

  -- ---- what a join leaves

  -- The join of two heads, from the objects before it to those after it: the word holds before it, and the merge commit, if there is one, is held after it.
  abbrev pub Joins : Objects → Objects → Option Name → Name → Id → ℕ → ℕ → Merged → Type 0
  Joins before after local remote author clock now merged.Nothing = HasWord before local remote merged.Nothing
  Joins before after local remote author clock now (merged.New head) = HasWord before local remote (merged.New head)
  Joins before after local remote author clock now (merged.Forward head) = HasWord before local remote (merged.Forward head)
  Joins before after None remote author clock now (merged.Joined head) = ⊥
  Joins before after (Some local) remote author clock now (merged.Joined head) =
      HasWord before (Some local) remote (merged.Joined head)
      × ((edit : ℕ) × IsMergeTime before local remote clock edit × (head ≡ merge_name k local remote author edit now) × IsNode k after (merge_node k local remote author edit now))

  -- the same operation commits lie below these heads in the one store and below those in the other
  abbrev pub HaveSame : Objects → List Name → Objects → List Name → Type 0
  HaveSame one heads two tops = (placed : Placed Op) → IsOperationCommit k one heads placed ↔ IsOperationCommit k two tops placed

  -- below these heads lie exactly the operation commits of two lists of heads
  abbrev pub AreUnion : Objects → List Name → Objects → List Name → List Name → Type 0
  AreUnion after heads before one two = (placed : Placed Op) → IsOperationCommit k after heads placed ↔ (IsOperationCommit k before one placed ⊎ IsOperationCommit k before two placed)
