-- Which ref a step sets, and to what.
use Rattle.std.specs.Prelude.{◌≡◌, ◌⊎◌, ℕ, Bool, true, false, List, Some}
use Rattle.gb_text.specs.declared.id.Id.{Id}
use Rattle.gb_text.specs.declared.id.Name.{Name}
use Rattle.gb_store.specs.Files.{History, files_of}
use Rattle.ref_store.specs.Refs.{Head}
use Rattle.remote_name.specs.declared.remote.RemoteName.{RemoteName}
use Rattle.repo_state.specs.Sides.{head_at, ref_place}
use Rattle.repo_state.specs.declared.side.Side.{Side}
use Rattle.repo_steps.specs.Doing.{Doing, HeadSet}
use Rattle.sync_steps.specs.Places.{local_side, tracking_side}
use Rattle.sync_steps.specs.declared.line.EntityWord.{EntityWord}
use Rattle.merge_steps.specs.declared.line.MergeOutcome.{MergeOutcome}
use Rattle.merge_steps.specs.declared.line.MergeOutcome.TheVariants as outcome
use Rattle.ref_moments.specs.Once.{IsSetOnce, StaysSame}

-- the ref of an id is that of the head that a command sets, and is set to it
pub record IsOwnSet (folder : List ℕ) (doing : Doing) (of : Side) (id : Id) (old new : History) : Type 0 where
  pub set : HeadSet
  pub is : doing.sets ≡ Some set
  pub place : ref_place set.of set.id ≡ ref_place of id
  pub once : IsSetOnce folder of id set.head old new

-- a command leaves a ref of its folder at each moment, or sets it as its own
abbrev pub StaysOrIsSet : List ℕ → Doing → Side → Id → History → History → Type 0
StaysOrIsSet folder doing of id old new = StaysSame folder of id old new ⊎ IsOwnSet folder doing of id old new

-- the ref of an id is a tracking ref of the remote, and is set to the head that the peer's ref had
pub record IsFetched (own peer : List ℕ) (remote : RemoteName) (of : Side) (id : Id) (old new : History) : Type 0 where
  pub word : EntityWord
  pub is_side : of ≡ tracking_side remote word
  pub head : Name
  pub is_peers : head_at (files_of old) peer (local_side word) id ≡ Head head
  pub once : IsSetOnce own of id head old new

-- the ref of an id is a local ref of the peer, and is set to the head that the own folder's ref had
pub record IsPushed (own peer : List ℕ) (of : Side) (id : Id) (old new : History) : Type 0 where
  pub word : EntityWord
  pub is_side : of ≡ local_side word
  pub head : Name
  pub is_own : head_at (files_of old) own (local_side word) id ≡ Head head
  pub once : IsSetOnce peer of id head old new

-- the ref of an id is a local ref whose entity the remote was seen to have, and is set once
pub record IsMergedRef (folder : List ℕ) (remote : RemoteName) (of : Side) (id : Id) (old new : History) : Type 0 where
  pub word : EntityWord
  pub is_side : of ≡ local_side word
  pub tracked : Name
  pub is_tracked : head_at (files_of old) folder (tracking_side remote word) id ≡ Head tracked
  pub head : Name
  pub once : IsSetOnce folder of id head old new

-- the ref of an id is a local ref, and is set once by the merge of a pull
pub record IsPulledRef (own : List ℕ) (of : Side) (id : Id) (old new : History) : Type 0 where
  pub word : EntityWord
  pub is_side : of ≡ local_side word
  pub head : Name
  pub once : IsSetOnce own of id head old new

-- what came of an entity in a merge moves its local ref
abbrev pub moves : MergeOutcome → Bool
moves outcome.Nothing = false
moves outcome.New = true
moves outcome.Forward = true
moves outcome.Joined = true
moves (outcome.InvalidBug f) = false
moves (outcome.InvalidIdentity f) = false
moves (outcome.NotForward name) = false
