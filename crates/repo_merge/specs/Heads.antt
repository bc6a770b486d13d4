-- The heads of a tracked entity.
use Rattle.std.specs.Prelude.{◌≡◌, ⊤, ℕ, List, Some, Result, Ok, Err}
use Rattle.gb_text.specs.declared.id.Id.{Id}
use Rattle.gb_store.specs.Files.{Files, History, files_of}
use Rattle.repo_state.specs.Answers.{IsHeadAt}
use Rattle.repo_state.specs.declared.refs.EntityRef.{EntityRef}
use Rattle.repo_state.specs.declared.side.Side.{Side}
use Rattle.listed_refs.specs.AsListed.{AreAsListed, IsAsListed}
use Rattle.listed_refs.specs.declared.listed.ListedSide.{ListedSide}
use Rattle.merge_steps.specs.Merging.{IsBadTurn}
use Rattle.merge_steps.specs.declared.stop.TurnStop.{TurnStop}
use Rattle.merge_steps.specs.declared.stop.TurnStop.TheVariants as stop
use Rattle.repo_merge.specs.declared.heads.Heads.{Heads}

-- the ref of an id on a local side stands as it was listed
pub record IsLocal (files : Files) (folder : List ℕ) (local : Side) (locals : ListedSide) (id : Id) : Type 0 where
  pub side : locals.side ≡ local
  pub alike : IsAsListed files folder locals id

-- and so do those of the ids of these
pub record AreLocals (files : Files) (folder : List ℕ) (local : Side) (locals : ListedSide) (refs : List EntityRef) : Type 0 where
  pub side : locals.side ≡ local
  pub alike : AreAsListed files folder locals refs

-- the entity was listed with this tracked head, and its local ref has this head, or none stands
pub record HasHeads (files : Files) (folder : List ℕ) (local : Side) (entity : EntityRef) (heads : Heads) : Type 0 where
  pub same_id : heads.id ≡ entity.id
  pub is_tracked : entity.head ≡ Some heads.tracked
  pub is_local : IsHeadAt files folder local entity.id heads.local

-- the answer to a read of them: both, or the path of a ref that is no ref text
abbrev pub HeadsAnswers : List ℕ → Side → Side → EntityRef → History → Result Heads TurnStop → Type 0
HeadsAnswers folder tracked local entity old (Ok heads) = HasHeads (files_of old) folder local entity heads
HeadsAnswers folder tracked local entity old (Err stop.Memory) = ⊤
HeadsAnswers folder tracked local entity old (Err stop.Disk) = ⊤
HeadsAnswers folder tracked local entity old (Err (stop.Damaged path)) = IsBadTurn folder tracked local entity path old old
HeadsAnswers folder tracked local entity old (Err (stop.Taken name)) = ⊥
