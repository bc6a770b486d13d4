-- What comes of an identity whose tracked head is taken up.
use Rattle.std.proofs.Common.{◌≡◌, ◌∷◌, ℕ, List, Err, inl, inr, subst}
use Rattle.gb_text.specs.declared.id.Id.{Id}
use Rattle.gb_store.specs.Files.{History, files_of}
use Rattle.gb_store.specs.declared.fault.StoreFault.{StoreFault}
use Rattle.gb_store.specs.declared.fault.StoreFault.TheVariants as store
use Rattle.ref_store.specs.Setting.{ref_write}
use Rattle.repo_state.specs.Answers.{PutAnswers}
use Rattle.repo_state.specs.Sides.{ref_place}
use Rattle.repo_state.specs.declared.refs.EntityRef.{EntityRef}
use Rattle.repo_state.specs.declared.side.Side.{Side}
use Rattle.repo_state.specs.declared.side.Side.TheVariants as side
use Rattle.merge_steps.specs.Merging.{MergesPerson, PersonOutcome, PersonStops}
use Rattle.merge_steps.specs.Stops.{turn_of_store}
use Rattle.merge_steps.specs.declared.line.MergeOutcome.{MergeOutcome}
use Rattle.repo_merge.specs.Heads.{HasHeads}
use Rattle.repo_merge.specs.declared.heads.Heads.{Heads}

module _ (folder : List ℕ) (entity : EntityRef) (heads : Heads) (old new : History) (has : HasHeads (files_of old) folder side.Identities entity heads) where
  -- the turn of an identity, by what came of its heads
  pub person_turn : (outcome : MergeOutcome) → PersonOutcome folder heads.id heads.local heads.tracked outcome old new → MergesPerson folder (record { entity = entity; outcome = outcome }) old new
  person_turn outcome is = record {
    tracked = heads.tracked;
    is_tracked = has.is_tracked;
    local = heads.local;
    is_local = has.is_local;
    is = subst (λ (id : Id). PersonOutcome folder id heads.local heads.tracked outcome old new) has.same_id is;
  }

  -- the write of the ref was answered by a fault, and may have been made
  pub person_cut : (tracked : Side) (outcome : MergeOutcome) (fault : StoreFault) → PutAnswers (ref_write folder (ref_place side.Identities heads.id) heads.tracked) old new (Err fault)
      → (new ≡ ref_write folder (ref_place side.Identities heads.id) heads.tracked ∷ old → PersonOutcome folder heads.id heads.local heads.tracked outcome old new)
      → PersonStops folder tracked (turn_of_store fault) entity old new
  person_cut tracked outcome store.Memory same by = inl same
  person_cut tracked outcome store.Failed (inl same) by = inl same
  person_cut tracked outcome store.Failed (inr made) by = inr (outcome, person_turn outcome (by made))
