-- What is answered with a value has no fault.
use Rattle.std.proofs.Common.{◌≡◌, ◌∙◌, sym, List, ℕ, Some, None}
use Rattle.std.specs.Prelude.{Result, Ok, Err, IfOk}
use Rattle.op_kind.specs.Answers.{Answers}
use Rattle.op_kind.specs.Common.{common_at, CommonFault}
use Rattle.op_kind.specs.CommonLaws.{fault_means_none}
use Rattle.op_kind.specs.declared.place.Place.{Place}
use Rattle.op_kind.specs.declared.place.Common.{Common}
use Rattle.op_kind.specs.declared.fault.OpFault.{OpFault}

-- What is answered with a common part has no fault.
pub sound_answer : (p : Place) (t : List ℕ) (r : Result Common OpFault) → Answers (common_at p t) (CommonFault t) r → IfOk r (λ _. (f : OpFault) → CommonFault t f → ⊥)
sound_answer p t (Ok c) h = λ f fault. let n : None ≡ Some c = sym (fault_means_none p t f fault) ∙ h in absurd (cc (n))
sound_answer p t (Err f) h = tt
