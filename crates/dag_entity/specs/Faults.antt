-- What may be wrong with an entity: one case a fault, over what lies below its heads, and no order among them.
use Rattle.std.specs.Prelude.{◌≡◌, ◌≢◌, ◌≤◌, ◌<◌, ◌+◌, ◌⊎◌, ⊤, ℕ, false, List, [], ◌∷◌, length, slice_get, Contains, Some, None}
use Rattle.gb_text.specs.declared.decimal.TheConstants.{GREATEST_TIME}
use Rattle.gb_text.specs.declared.id.Id.{Id}
use Rattle.gb_text.specs.declared.id.Name.{Name}
use Rattle.git_object.specs.declared.commit.Commit.{Commit}
use Rattle.lamport.specs.declared.clock.TheConstants.{JUMP}
use Rattle.object_store.specs.Held.{Objects, IsDamaged, IsLarge}
use Rattle.object_store.specs.Typed.{IsOtherKind, as_commit}
use Rattle.object_store.specs.declared.read.TheConstants.{MOST_BYTES}
use Rattle.commit_walk.specs.Below.{AreTooMany, HasCommit, IsBelow, IsParent}
use Rattle.commit_walk.specs.Distinct.{AreDistinct}
use Rattle.commit_walk.specs.declared.below.TheConstants.{MOST_COMMITS}
use Rattle.commit_pack.specs.declared.fault.CommitPackFault.TheVariants as pack
use Rattle.op_kind.specs.Meaning.{Meaning}
use Rattle.dag_entity.specs.Nodes.{IsCommitBelow, IsNeeded, IsNodeBelow, HasPackFault, edit_at, ids_of}
use Rattle.dag_entity.specs.declared.entity.Loaded.{Loaded}
use Rattle.dag_entity.specs.declared.fault.EntityFault.{EntityFault}
use Rattle.dag_entity.specs.declared.fault.EntityFault.TheVariants as fault

-- ---- faults of the graph, said of held commits and readable clocks, whatever their packs

-- a commit below the heads that has no parent
pub record IsRootCommit (objects : Objects) (heads : List Name) (name : Name) : Type 0 where
  pub commit : Commit
  pub is : IsCommitBelow objects heads name commit
  pub root : commit.parents ≡ []

-- a commit without parents beside another one
pub record IsSecondRoot (objects : Objects) (heads : List Name) (name : Name) : Type 0 where
  pub one : IsRootCommit objects heads name
  pub other : Name
  pub two : IsRootCommit objects heads other
  pub differ : name ≢ other

-- a commit whose edit clock is not greater than that of a parent
pub record HasClockOrder (objects : Objects) (heads : List Name) (high low : Name) : Type 0 where
  pub below : IsBelow objects heads high
  pub parent : IsParent objects high low
  pub above : ℕ
  pub beneath : ℕ
  pub says_above : edit_at objects high ≡ Some above
  pub says_beneath : edit_at objects low ≡ Some beneath
  pub falls : above ≤ beneath

-- a commit with a single parent, and an edit clock that is further above it than an edit's may be
pub record HasClockJump (objects : Objects) (heads : List Name) (high low : Name) : Type 0 where
  pub commit : Commit
  pub is : IsCommitBelow objects heads high commit
  pub single : commit.parents ≡ low ∷ []
  pub above : ℕ
  pub beneath : ℕ
  pub says_above : edit_at objects high ≡ Some above
  pub says_beneath : edit_at objects low ≡ Some beneath
  pub jumps : beneath + JUMP < above

-- ---- two heads that need a merge commit

-- the heads are two, of which neither lies below the other
pub record AreApart (objects : Objects) (heads : List Name) (one two : Name) : Type 0 where
  pub are : heads ≡ one ∷ two ∷ []
  pub one_apart : IsBelow objects (two ∷ []) one → ⊥
  pub two_apart : IsBelow objects (one ∷ []) two → ⊥

-- so many commits lie below heads that are apart that a merge commit is one too many
pub record NeedTooMany (objects : Objects) (heads : List Name) : Type 0 where
  pub one : Name
  pub two : Name
  pub apart : AreApart objects heads one two
  pub names : List Name
  pub once : AreDistinct names
  pub many : MOST_COMMITS ≤ length names
  pub each : (name : Name) → Contains names name → HasCommit objects heads name

-- a head among two that are apart, with the greatest clock
pub record IsFullHead (objects : Objects) (heads : List Name) (name : Name) : Type 0 where
  pub one : Name
  pub two : Name
  pub apart : AreApart objects heads one two
  pub head : Contains heads name
  pub full : edit_at objects name ≡ Some GREATEST_TIME

module _ {Op State Row : Type 0} (k : Meaning Op State Row) where
  -- ---- faults of packs, said of commits that have one

  -- a commit with two parents or more, and operations
  pub record IsMergeWithOperations (objects : Objects) (heads : List Name) (name : Name) : Type 0 where
    pub node : Loaded Op
    pub is : IsNodeBelow k objects heads node
    pub named : node.placed.commit ≡ name
    pub many : 2 ≤ length node.parents
    pub some : 0 < length node.placed.pack.ops

  -- a commit below the heads with a pack and no parent
  pub record IsRootNode (objects : Objects) (heads : List Name) (node : Loaded Op) : Type 0 where
    pub is : IsNodeBelow k objects heads node
    pub root : node.parents ≡ []

  -- a root without a create clock
  pub record LacksCreateClock (objects : Objects) (heads : List Name) (name : Name) : Type 0 where
    pub node : Loaded Op
    pub is : IsRootNode objects heads node
    pub named : node.placed.commit ≡ name
    pub lacks : node.placed.pack.create ≡ None

  -- one pack has an operation's id at two places
  pub record RepeatsWithin (objects : Objects) (heads : List Name) (id : Id) : Type 0 where
    pub node : Loaded Op
    pub is : IsNodeBelow k objects heads node
    pub one : ℕ
    pub two : ℕ
    pub differ : one ≢ two
    pub at_one : slice_get (ids_of k node.placed.pack) one ≡ Some id
    pub at_two : slice_get (ids_of k node.placed.pack) two ≡ Some id

  -- the packs of two commits have an operation's id
  pub record RepeatsAcross (objects : Objects) (heads : List Name) (id : Id) : Type 0 where
    pub one : Loaded Op
    pub two : Loaded Op
    pub is_one : IsNodeBelow k objects heads one
    pub is_two : IsNodeBelow k objects heads two
    pub differ : one.placed.commit ≢ two.placed.commit
    pub in_one : Contains (ids_of k one.placed.pack) id
    pub in_two : Contains (ids_of k two.placed.pack) id

  -- the first operation of a root has an id that is not the entity's
  pub record HasWrongId (objects : Objects) (heads : List Name) (id found : Id) : Type 0 where
    pub node : Loaded Op
    pub is : IsRootNode objects heads node
    pub first : slice_get (ids_of k node.placed.pack) 0 ≡ Some found
    pub wrong : found ≢ id

  -- operations with which an entity may not begin: none, or a first one that may not be first
  abbrev pub MayNotOpen : List Op → Type 0
  MayNotOpen [] = ⊤
  MayNotOpen (op ∷ ops) = k.is_opening op ≡ false

  -- a root with such operations
  pub record OpensBadly (objects : Objects) (heads : List Name) : Type 0 where
    pub node : Loaded Op
    pub is : IsRootNode objects heads node
    pub bad : MayNotOpen node.placed.pack.ops

  -- an operation that may not follow others, and is not the first of a root
  pub record FollowsBadly (objects : Objects) (heads : List Name) (id : Id) : Type 0 where
    pub node : Loaded Op
    pub is : IsNodeBelow k objects heads node
    pub place : ℕ
    pub op : Op
    pub at : slice_get node.placed.pack.ops place ≡ Some op
    pub named : (k.common_of op).place.id ≡ id
    pub bad : k.is_following op ≡ false
    pub later : node.parents ≡ [] → place ≡ 0 → ⊥

  -- a pack whose author is not among the authors
  pub record HasUnknownAuthor (objects : Objects) (heads : List Name) (authors : List Id) (author : Id) : Type 0 where
    pub node : Loaded Op
    pub is : IsNodeBelow k objects heads node
    pub wrote : node.placed.pack.author ≡ author
    pub unknown : Contains authors author → ⊥

  -- ---- limits

  -- there are too many commits, a pack has too many operations, or an object that is needed has too many bytes
  abbrev pub IsTooLarge : Objects → List Name → ℕ → Type 0
  IsTooLarge objects heads count =
      ((count ≡ MOST_COMMITS + 1) × (AreTooMany objects heads ⊎ NeedTooMany objects heads))
      ⊎ ((name : Name) × HasPackFault k objects heads name (pack.TooLarge count))
      ⊎ ((count ≡ MOST_BYTES + 1) × ((name : Name) × IsNeeded objects heads name × IsLarge (objects name)))

  -- What is wrong with the entity of an id, with these heads and among these authors.
  unfoldable pub EntityFaultHolds : Objects → Id → List Name → List Id → EntityFault → Type 0
  EntityFaultHolds objects id heads authors fault.Memory = ⊥
  EntityFaultHolds objects id heads authors fault.Disk = ⊥
  EntityFaultHolds objects id heads authors (fault.Missing name) = IsNeeded objects heads name × (objects name ≡ None)
  EntityFaultHolds objects id heads authors (fault.Damaged name) = IsNeeded objects heads name × IsDamaged objects name
  EntityFaultHolds objects id heads authors (fault.NotCommit name) = IsBelow objects heads name × IsOtherKind as_commit objects name
  EntityFaultHolds objects id heads authors (fault.BadTree name) = HasPackFault k objects heads name pack.BadTree
  EntityFaultHolds objects id heads authors (fault.UnknownVersion name n) = HasPackFault k objects heads name (pack.UnknownVersion n)
  EntityFaultHolds objects id heads authors (fault.NoOps name) = HasPackFault k objects heads name pack.NoOps
  EntityFaultHolds objects id heads authors (fault.BadClock name) = HasPackFault k objects heads name pack.BadClock
  EntityFaultHolds objects id heads authors (fault.BadPack name) = HasPackFault k objects heads name pack.BadPack
  EntityFaultHolds objects id heads authors (fault.BadOperation name i f) = HasPackFault k objects heads name (pack.BadOperation i f)
  EntityFaultHolds objects id heads authors (fault.SecondRoot name) = IsSecondRoot objects heads name
  EntityFaultHolds objects id heads authors (fault.ClockOrder high low) = HasClockOrder objects heads high low
  EntityFaultHolds objects id heads authors (fault.ClockJump high low) = HasClockJump objects heads high low
  EntityFaultHolds objects id heads authors (fault.MergeHasOperations name) = IsMergeWithOperations objects heads name
  EntityFaultHolds objects id heads authors (fault.NoCreateClock name) = LacksCreateClock objects heads name
  EntityFaultHolds objects id heads authors (fault.RepeatedOperation found) = RepeatsWithin objects heads found ⊎ RepeatsAcross objects heads found
  EntityFaultHolds objects id heads authors (fault.WrongId found) = HasWrongId objects heads id found
  EntityFaultHolds objects id heads authors fault.FirstNotCreate = OpensBadly objects heads
  EntityFaultHolds objects id heads authors (fault.SecondCreate found) = FollowsBadly objects heads found
  EntityFaultHolds objects id heads authors (fault.AuthorUnknown author) = HasUnknownAuthor objects heads authors author
  EntityFaultHolds objects id heads authors (fault.TooLarge count) = IsTooLarge objects heads count
  EntityFaultHolds objects id heads authors (fault.ClockFull name) = IsFullHead objects heads name

  -- Nothing is wrong with the entity.
  abbrev pub IsValid : Objects → Id → List Name → List Id → Type 0
  IsValid objects id heads authors = (f : EntityFault) → EntityFaultHolds objects id heads authors f → ⊥
