-- A turn whose heads were not read, or that ended before it wrote.
use Rattle.std.proofs.Common.{◌≡◌, ℕ, List, Some, Err, inl, inr, refl, subst}
use Rattle.gb_text.specs.declared.id.Name.{Name}
use Rattle.gb_store.specs.Files.{History, files_of}
use Rattle.gb_store.specs.declared.fault.StoreFault.{StoreFault}
use Rattle.gb_store.specs.declared.fault.StoreFault.TheVariants as store
use Rattle.repo_state.specs.Answers.{IsHeadAt, Reads}
use Rattle.repo_state.specs.Sides.{IsBadRef}
use Rattle.repo_state.specs.declared.refs.EntityRef.{EntityRef}
use Rattle.repo_state.specs.declared.side.Side.{Side}
use Rattle.repo_state.specs.declared.side.Side.TheVariants as side
use Rattle.repo_state.specs.declared.stop.ReadStop.{ReadStop}
use Rattle.repo_state.specs.declared.stop.ReadStop.TheVariants as read
use Rattle.listed_refs.specs.declared.listed.ListedSide.{ListedSide}
use Rattle.merge_steps.specs.Merging.{BugStops, PersonStops}
use Rattle.merge_steps.specs.Stops.{turn_of_read, turn_of_store}
use Rattle.merge_steps.specs.declared.stop.TurnStop.{TurnStop}
use Rattle.merge_steps.specs.declared.stop.TurnStop.TheVariants as stop
use Rattle.repo_merge.specs.Heads.{HeadsAnswers}
use Rattle.repo_merge.specs.declared.maker.Maker.{Maker}

-- the local head is not told where the local ref is no ref text
pub local_ends : (folder : List ℕ) (tracked local : Side) (locals : ListedSide) (entity : EntityRef) (name : Name) (old : History) (why : ReadStop) → locals.side ≡ local → entity.head ≡ Some name
    → Reads (IsHeadAt (files_of old) folder locals.side entity.id) (IsBadRef (files_of old) folder locals.side entity.id) (Err why)
    → HeadsAnswers folder tracked local entity old (Err (turn_of_read why))
local_ends folder tracked local locals entity name old read.Memory on is told = tt
local_ends folder tracked local locals entity name old read.Disk on is told = tt
local_ends folder tracked local locals entity name old (read.Damaged path) on is told =
    (inr (name, is, subst (λ (of : Side). IsBadRef (files_of old) folder of entity.id path) on told), refl)

module _ (folder : List ℕ) (tracked : Side) (entity : EntityRef) (old new : History) (same : new ≡ old) where
  -- the heads of an identity were not read
  pub person_ends : (why : TurnStop) → HeadsAnswers folder tracked side.Identities entity old (Err why) → PersonStops folder tracked why entity old new
  person_ends stop.Memory told = inl same
  person_ends stop.Disk told = inl same
  person_ends (stop.Damaged path) told = (told.0, same)
  person_ends (stop.Taken name) told = absurd told

  module _ (maker : Maker) where
    -- those of a bug were not
    pub bug_ends : (why : TurnStop) → HeadsAnswers folder tracked side.Bugs entity old (Err why) → BugStops folder maker.user maker.authors maker.time tracked why entity old new
    bug_ends stop.Memory told = inl same
    bug_ends stop.Disk told = inl same
    bug_ends (stop.Damaged path) told = (told.0, same)
    bug_ends (stop.Taken name) told = absurd told

    -- its clock was not
    pub bug_unread : (fault : StoreFault) → BugStops folder maker.user maker.authors maker.time tracked (turn_of_store fault) entity old new
    bug_unread store.Memory = inl same
    bug_unread store.Failed = inl same
