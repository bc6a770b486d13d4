-- What is printed of a text, and how that ends.
use Rattle.std.specs.Prelude.{◌≡◌, ◌<◌, ◌⊎◌, ℕ, Bool, IsTrue, List, ◌++◌, length, take}
use Rattle.bug_run.specs.declared.status.Refused.TheVariants.{SomeLines}
use Rattle.bug_run.specs.declared.status.Status.{Status}
use Rattle.bug_run.specs.declared.status.Status.TheVariants as status

-- a front of a text was printed, and not all of it
pub record PrintedFront (tells : Bool) (text old new : List ℕ) : Type 0 where
  pub count : ℕ
  pub some_left : count < length text
  pub printed : IsTrue tells → new ≡ old ++ take count text

-- a status was told, but where the sink refused or memory ran out
abbrev pub IsTold : Status → Status → Type 0
IsTold told answer = (answer ≡ told) ⊎ ((answer ≡ status.OutFault) ⊎ (answer ≡ status.Memory))

-- nothing was printed; or a front of a text, by a sink that may itself answer want of memory
abbrev pub RanOut : Bool → Bool → List ℕ → List ℕ → List ℕ → Type 0
RanOut tells takes_memory text old new = (IsTrue tells → new ≡ old) ⊎ (IsTrue takes_memory × PrintedFront tells text old new)

-- a text was printed, and its status told; or the sink refused, and a front of the text was printed; or memory ran out
abbrev pub Printed : Bool → Bool → List ℕ → Status → List ℕ → List ℕ → Status → Type 0
Printed tells takes_memory text told old new answer =
    ((answer ≡ told) × (IsTrue tells → new ≡ old ++ text))
    ⊎ (((answer ≡ status.OutFault) × PrintedFront tells text old new)
    ⊎ ((answer ≡ status.Memory) × RanOut tells takes_memory text old new))

-- lines were answered and printed: none of them tells a refusal, or so many do
abbrev pub HasLines : Status → Type 0
HasLines answer = (answer ≡ status.Done) ⊎ ((count : ℕ) × (answer ≡ status.Refused (SomeLines count)))
