-- Answers of readers, with their causes.
use Rattle.std.specs.Prelude.{◌≡◌, ◌≢◌, Option, Some, Result, Ok, Err}
use Rattle.op_kind.specs.declared.fault.OpFault.{OpFault}
use Rattle.op_kind.specs.declared.fault.OpFault.TheVariants.{Memory}

-- What is answered is the value, and a fault that is named holds, unless memory ran out.
abbrev pub Answers : {A : Type 0} → Option A → (OpFault → Type 0) → Result A OpFault → Type 0
Answers value Fault (Ok a) = value ≡ Some a
Answers value Fault (Err f) = f ≢ Memory → Fault f
