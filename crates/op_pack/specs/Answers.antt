-- Answers of readers, with their causes.
use Rattle.std.specs.Prelude.{◌≡◌, ◌≢◌, Option, Some, Result, Ok, Err}
use Rattle.op_pack.specs.declared.fault.PackFault.{PackFault}
use Rattle.op_pack.specs.declared.fault.PackFault.TheVariants.{Memory}

-- What is answered is the value, and a fault that is named holds.
abbrev pub Answers : {A : Type 0} → Option A → (PackFault → Type 0) → Result A PackFault → Type 0
Answers value Fault (Ok a) = value ≡ Some a
Answers value Fault (Err f) = Fault f

-- What is answered is the value, and a fault that is named holds, unless memory ran out.
abbrev pub AnswersUnlessMemory : {A : Type 0} → Option A → (PackFault → Type 0) → Result A PackFault → Type 0
AnswersUnlessMemory value Fault (Ok a) = value ≡ Some a
AnswersUnlessMemory value Fault (Err f) = f ≢ Memory → Fault f
