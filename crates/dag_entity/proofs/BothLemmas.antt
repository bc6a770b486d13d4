-- From the walk below two heads to the answer of their reading.
use Rattle.std.proofs.Common.{◌∷◌, [], List, Err}
use Rattle.gb_text.specs.declared.id.Id.{Id}
use Rattle.gb_text.specs.declared.id.Name.{Name}
use Rattle.object_store.specs.Held.{Objects}
use Rattle.commit_walk.specs.Below.{IsBelow}
use Rattle.commit_walk.specs.Both.{BothAnswers as WalkBoth}
use Rattle.commit_walk.specs.declared.fault.WalkStop.{WalkStop}
use Rattle.commit_walk.specs.declared.fault.WalkStop.TheVariants as walk
use Rattle.op_kind.specs.Meaning.{Meaning}
use Rattle.dag_entity.specs.Faults.{EntityFaultHolds}
use Rattle.dag_entity.specs.Joining.{BothAnswers}
use Rattle.dag_entity.specs.Stops.{Refused, walk_stop}
use Rattle.dag_entity.specs.declared.fault.EntityFault.{EntityFault}
use Rattle.dag_entity.specs.declared.fault.EntityFault.TheVariants as fault
use Rattle.dag_entity.proofs.ReadLemmas.{walk_refused}

module _ {Op State Row : Type 0} (k : Meaning Op State Row) (objects : Objects) (id : Id) (authors : List Id) (one two : Name) where
  -- what is wrong with both heads together
  pub both_refused : (IsBelow objects (one ∷ []) two → ⊥) → (f : EntityFault) → Refused (EntityFaultHolds k objects id (one ∷ two ∷ []) authors) f → BothAnswers k objects id one two authors (Err f)
  both_refused new fault.Memory h = tt
  both_refused new fault.Disk h = tt
  both_refused new f h = (new, h)

  -- what stops the walk below both
  pub walk_refuses : (s : WalkStop) → WalkBoth objects one two (Err s) → BothAnswers k objects id one two authors (Err (walk_stop s))
  walk_refuses walk.Memory h = tt
  walk_refuses walk.Disk h = tt
  walk_refuses (walk.Fault f) h = both_refused h.0 (walk_stop (walk.Fault f)) (walk_refused k objects (one ∷ two ∷ []) id authors (walk.Fault f) h.1)
