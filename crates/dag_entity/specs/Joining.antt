-- Two heads of an entity: how they lie to each other, what may be wrong with both and with neither alone, and the commit over both.
use Rattle.std.specs.Prelude.{◌≡◌, ◌≢◌, ◌+◌, ◌⊎◌, ⊤, ℕ, List, [], ◌∷◌, Contains, None, Some, Result, Ok, Err}
use Rattle.gb_text.specs.declared.id.Id.{Id}
use Rattle.gb_text.specs.declared.id.Name.{Name}
use Rattle.lamport.specs.Clock.{merge_time_of}
use Rattle.object_store.specs.Held.{Objects}
use Rattle.commit_walk.specs.Below.{IsBelow}
use Rattle.commit_walk.specs.declared.below.TheConstants.{MOST_COMMITS}
use Rattle.commit_walk.specs.declared.below.Met.{Met}
use Rattle.op_kind.specs.Meaning.{Meaning}
use Rattle.op_kind.specs.declared.place.TheConstants.{VERSION}
use Rattle.op_pack.specs.declared.pack.Pack.{Pack}
use Rattle.dag_entity.specs.Appending.{appended_name, appended_node, appended_objects}
use Rattle.dag_entity.specs.Entities.{IsEntity}
use Rattle.dag_entity.specs.Faults.{AreApart, EntityFaultHolds, IsFullHead, IsRootCommit, NeedTooMany}
use Rattle.dag_entity.specs.Nodes.{IsNodeBelow, edit_at, ids_of}
use Rattle.dag_entity.specs.declared.both.ReadBoth.{ReadBoth}
use Rattle.dag_entity.specs.declared.both.ReadBoth.TheVariants as both
use Rattle.dag_entity.specs.declared.entity.Entity.{Entity}
use Rattle.dag_entity.specs.declared.entity.Loaded.{Loaded}
use Rattle.dag_entity.specs.declared.fault.EntityFault.{EntityFault}
use Rattle.dag_entity.specs.declared.fault.EntityFault.TheVariants as fault

-- an entity at this head alone
abbrev pub at_head : {Op : Type 0} → Entity Op → Name → Entity Op
at_head entity head = record { id = entity.id; heads = head ∷ []; edit = entity.edit; create = entity.create; commits = entity.commits; packs = entity.packs }

-- a commit among those that were met has the name among its parents
pub record HasChild (walk : List Met) (name : Name) : Type 0 where
  pub met : Met
  pub among : Contains walk met
  pub names : Contains met.parents name

-- ---- what is wrong with both and with neither alone

-- a root below the first head, beside another one below the second
pub record IsRootAcross (objects : Objects) (first second name : Name) : Type 0 where
  pub one : IsRootCommit objects (first ∷ []) name
  pub other : Name
  pub two : IsRootCommit objects (second ∷ []) other
  pub differ : name ≢ other

module _ {Op State Row : Type 0} (k : Meaning Op State Row) where
  -- an operation's id stands in the pack of a commit below the first head, and in that of another commit below the second
  pub record IsRepeatedAcross (objects : Objects) (first second : Name) (id : Id) : Type 0 where
    pub one : Loaded Op
    pub two : Loaded Op
    pub is_one : IsNodeBelow k objects (first ∷ []) one
    pub is_two : IsNodeBelow k objects (second ∷ []) two
    pub differ : one.placed.commit ≢ two.placed.commit
    pub in_one : Contains (ids_of k one.placed.pack) id
    pub in_two : Contains (ids_of k two.placed.pack) id

  -- What may be wrong with two heads together of which each is valid alone.
  abbrev pub TakesBoth : Objects → Name → Name → EntityFault → Type 0
  TakesBoth objects first second (fault.SecondRoot name) = IsRootAcross objects first second name ⊎ IsRootAcross objects second first name
  TakesBoth objects first second (fault.RepeatedOperation id) = IsRepeatedAcross objects first second id
  TakesBoth objects first second (fault.TooLarge count) = (count ≡ MOST_COMMITS + 1) × NeedTooMany objects (first ∷ second ∷ [])
  TakesBoth objects first second (fault.ClockFull name) = IsFullHead objects (first ∷ second ∷ []) name
  TakesBoth objects first second _ = ⊥

-- ---- the commit over both

-- its edit clock: the clock rule's, by the folder's clock and those of both heads
pub record IsMergeTime (objects : Objects) (first second : Name) (clock edit : ℕ) : Type 0 where
  pub one : ℕ
  pub two : ℕ
  pub says_one : edit_at objects first ≡ Some one
  pub says_two : edit_at objects second ≡ Some two
  pub is : edit ≡ merge_time_of clock one two

-- its pack: no operation, of this author, without a create clock; the pack's id does not matter
abbrev pub merge_pack : {Op : Type 0} → Id → ℕ → Pack Op
merge_pack author edit = record { id = author; version = VERSION; edit = edit; create = None; author = author; ops = [] }

module _ {Op State Row : Type 0} (k : Meaning Op State Row) where
  -- its name
  abbrev pub merge_name : Name → Name → Id → ℕ → ℕ → Name
  merge_name first second author edit now = appended_name k (first ∷ second ∷ []) (merge_pack author edit) now

  -- the texts of its objects
  abbrev pub merge_objects : Name → Name → Id → ℕ → ℕ → List (List ℕ)
  merge_objects first second author edit now = appended_objects k (first ∷ second ∷ []) (merge_pack author edit) now

  -- its node
  abbrev pub merge_node : Name → Name → Id → ℕ → ℕ → Loaded Op
  merge_node first second author edit now = appended_node k (first ∷ second ∷ []) (merge_pack author edit) now

  -- ---- the answer to a reading of two heads

  -- The heads are equal; the second is another that lies below the first; the first lies below the second alone, or neither below the other, with the entity of both; or it is not below, and something is wrong with both.
  abbrev pub BothAnswers : Objects → Id → Name → Name → List Id → Result (ReadBoth Op) EntityFault → Type 0
  BothAnswers objects id first second authors (Ok both.Equal) = first ≡ second
  BothAnswers objects id first second authors (Ok both.Below) = (first ≡ second → ⊥) × IsBelow objects (first ∷ []) second
  BothAnswers objects id first second authors (Ok (both.Above entity)) =
      (IsBelow objects (first ∷ []) second → ⊥) × IsBelow objects (second ∷ []) first × IsEntity k objects id (first ∷ second ∷ []) authors entity
  BothAnswers objects id first second authors (Ok (both.Apart entity)) =
      AreApart objects (first ∷ second ∷ []) first second × IsEntity k objects id (first ∷ second ∷ []) authors entity
  BothAnswers objects id first second authors (Err fault.Memory) = ⊤
  BothAnswers objects id first second authors (Err fault.Disk) = ⊤
  BothAnswers objects id first second authors (Err f) =
      (IsBelow objects (first ∷ []) second → ⊥) × EntityFaultHolds k objects id (first ∷ second ∷ []) authors f

-- a fact of the entity of both heads, where it was read
abbrev pub IfEntity : {Op : Type 0} → Result (ReadBoth Op) EntityFault → (Entity Op → Type 0) → Type 0
IfEntity (Ok both.Equal) P = ⊤
IfEntity (Ok both.Below) P = ⊤
IfEntity (Ok (both.Above entity)) P = P entity
IfEntity (Ok (both.Apart entity)) P = P entity
IfEntity (Err _) P = ⊤

-- a fact where the second head is the first or lies below it
abbrev pub IfLies : {Op : Type 0} → Result (ReadBoth Op) EntityFault → Type 0 → Type 0
IfLies (Ok both.Equal) P = P
IfLies (Ok both.Below) P = P
IfLies (Ok (both.Above entity)) P = ⊤
IfLies (Ok (both.Apart entity)) P = ⊤
IfLies (Err _) P = ⊤

-- the heads were found to be equal, and nothing was read
pub record IsKnownEqual {Op : Type 0} (result : Result (ReadBoth Op) EntityFault) (before after : ℕ) : Type 0 where
  pub equal : result ≡ Ok both.Equal
  pub reads : after ≡ before
