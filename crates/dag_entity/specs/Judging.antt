-- What is asked of the packs of commits that were read, beside their graph.
use Rattle.std.specs.Prelude.{◌≡◌, ◌≢◌, ⊤, ℕ, Bool, true, false, List, [], ◌∷◌, ◌++◌, flat_map, slice_get, Contains, None, Some, Result, Ok, Err}
use Rattle.std.specs.List.{AllByRecursion}
use Rattle.std.specs.BTreeSet.{BTreeSet, contains}
use Rattle.std.specs.Cmp.Lexicographic.{slice_cmp}
use Rattle.std.specs.Ordering.{nat_cmp}
use Rattle.std.specs.declared.cmp.Ordering.{Ordering}
use Rattle.gb_text.specs.declared.id.Id.{Id}
use Rattle.op_kind.specs.Meaning.{Meaning}
use Rattle.op_pack.specs.declared.pack.Pack.{Pack}
use Rattle.commit_walk.specs.Distinct.{AreDistinct}
use Rattle.dag_entity.specs.Faults.{MayNotOpen}
use Rattle.dag_entity.specs.Nodes.{ids_of}
use Rattle.dag_entity.specs.declared.entity.Placed.{Placed}
use Rattle.dag_entity.specs.declared.fault.EntityFault.{EntityFault}
use Rattle.dag_entity.specs.declared.fault.EntityFault.TheVariants as fault

-- an id comes in the list behind a place where it stood already
pub record IsRepeated (ids : List Id) (id : Id) : Type 0 where
  pub front : List Id
  pub rest : List Id
  pub is : ids ≡ front ++ id ∷ rest
  pub again : Contains front id

-- the answer to whether no id of a list comes twice
abbrev pub DistinctAnswers : List Id → Result Unit EntityFault → Type 0
DistinctAnswers ids (Ok _) = AreDistinct ids
DistinctAnswers ids (Err fault.Memory) = ⊤
DistinctAnswers ids (Err (fault.RepeatedOperation id)) = IsRepeated ids id
DistinctAnswers ids (Err _) = ⊥

-- ids are in the order of their bytes
abbrev pub by_bytes : Id → Id → Ordering
by_bytes one two = slice_cmp nat_cmp one.bytes two.bytes

-- the set has the ids of a list and no other
pub record IsSetOf (known : BTreeSet Id) (ids : List Id) : Type 0 where
  pub all : (id : Id) → Contains ids id → contains by_bytes known id ≡ true
  pub only : (id : Id) → contains by_bytes known id ≡ true → Contains ids id

module _ {Op State Row : Type 0} (k : Meaning Op State Row) where
  -- an entity of the id may begin with the pack
  pub record OpensWell (id : Id) (pack : Pack Op) (create : ℕ) : Type 0 where
    pub says : pack.create ≡ Some create
    pub first : Op
    pub rest : List Op
    pub begins : pack.ops ≡ first ∷ rest
    pub opening : k.is_opening first ≡ true
    pub id_is : (k.common_of first).place.id ≡ id

  -- the answer to whether it may
  abbrev pub RootAnswers : Id → Placed Op → Result ℕ EntityFault → Type 0
  RootAnswers id placed (Ok create) = OpensWell id placed.pack create
  RootAnswers id placed (Err (fault.NoCreateClock name)) = (name ≡ placed.commit) × (placed.pack.create ≡ None)
  RootAnswers id placed (Err fault.FirstNotCreate) = MayNotOpen k placed.pack.ops
  RootAnswers id placed (Err (fault.WrongId found)) = (slice_get (ids_of k placed.pack) 0 ≡ Some found) × (found ≢ id)
  RootAnswers id placed (Err _) = ⊥

  -- the operations that stand behind others: all but the first of the root
  abbrev pub later_ops : Bool → List Op → List Op
  later_ops false ops = ops
  later_ops true [] = []
  later_ops true (op ∷ ops) = ops

  -- an operation among some that may not follow others, with this id
  pub record HasMisplaced (ops : List Op) (id : Id) : Type 0 where
    pub place : ℕ
    pub op : Op
    pub at : slice_get ops place ≡ Some op
    pub named : (k.common_of op).place.id ≡ id
    pub bad : k.is_following op ≡ false

  -- the answer to whether some operations may follow others
  abbrev pub FollowAnswers : List Op → Result Unit EntityFault → Type 0
  FollowAnswers ops (Ok _) = AllByRecursion (λ op. k.is_following op ≡ true) ops
  FollowAnswers ops (Err (fault.SecondCreate id)) = HasMisplaced ops id
  FollowAnswers ops (Err _) = ⊥

  -- a pack among some, with an operation that may not stand where it does
  pub record HasMisplacedAt (packs : List (Placed Op)) (is_root : ℕ → Bool) (id : Id) : Type 0 where
    pub place : ℕ
    pub placed : Placed Op
    pub at : slice_get packs place ≡ Some placed
    pub bad : HasMisplaced (later_ops (is_root place) placed.pack.ops) id

  -- the answer to whether the operations of all packs may stand where they do
  abbrev pub AllFollowAnswers : List (Placed Op) → (ℕ → Bool) → Result Unit EntityFault → Type 0
  AllFollowAnswers packs is_root (Ok _) =
      (place : ℕ) (placed : Placed Op) → slice_get packs place ≡ Some placed → AllByRecursion (λ op. k.is_following op ≡ true) (later_ops (is_root place) placed.pack.ops)
  AllFollowAnswers packs is_root (Err (fault.SecondCreate id)) = HasMisplacedAt packs is_root id
  AllFollowAnswers packs is_root (Err _) = ⊥

  -- the ids of all operations of some packs, pack by pack
  abbrev pub all_ids : List (Placed Op) → List Id
  all_ids packs = flat_map (λ (placed : Placed Op). ids_of k placed.pack) packs

  -- the answer to whether no operation comes twice
  abbrev pub IdsAnswers : List (Placed Op) → Result Unit EntityFault → Type 0
  IdsAnswers packs result = DistinctAnswers (all_ids packs) result

  -- a pack among some whose author is not among the authors
  pub record HasStranger (packs : List (Placed Op)) (authors : List Id) (author : Id) : Type 0 where
    pub placed : Placed Op
    pub among : Contains packs placed
    pub wrote : placed.pack.author ≡ author
    pub unknown : Contains authors author → ⊥

  -- the answer to whether the authors wrote all packs
  abbrev pub AuthorsAnswers : List (Placed Op) → List Id → Result Unit EntityFault → Type 0
  AuthorsAnswers packs authors (Ok _) = (placed : Placed Op) → Contains packs placed → Contains authors placed.pack.author
  AuthorsAnswers packs authors (Err fault.Memory) = ⊤
  AuthorsAnswers packs authors (Err (fault.AuthorUnknown author)) = HasStranger packs authors author
  AuthorsAnswers packs authors (Err _) = ⊥
