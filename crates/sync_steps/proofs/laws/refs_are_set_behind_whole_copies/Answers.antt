use Rattle.std.proofs.Common.{inl, inr, refl}
use Rattle.sync_steps.proofs.laws.refs_are_set_behind_whole_copies.Goals as goal

pub returns-clause-carried : goal.returns-clause-carried
returns-clause-carried c = λ closed source target to head old new carried. (carried.mid, carried.put, carried.set, carried.no_cause, carried.copied)

pub returns-clause-cut_off : goal.returns-clause-cut_off
returns-clause-cut_off c = λ closed source target to head old new cut. elim cut [
  | inl put ↦ (new, put, inl refl)
  | inr is ↦ (is.mid, is.put, inr (is.set, is.no_cause, is.copied))
]
