-- What a read tells of a file, which calls fail, and what is counted.
use Rattle.std.proofs.Common.{◌≡◌, ◌≢◌, ℕ, ◌<◌, ◌≤◌, ◌==◌, Bool, true, false, cond, List, ◌∷◌, length, Option, Some, None, Err, refl, ap, arith}
use Rattle.std.specs.Prelude.{is_some}
use Rattle.std.proofs.lemmas.Bool.Decides.{nat_tests}
use Rattle.gb_store.specs.Counts.{raised}
use Rattle.gb_store.specs.Files.{TellsFile}
use Rattle.gb_store.specs.MemStore.{MemState, WriteAnswers, after_call, fail_at, next_fail}
use Rattle.gb_store.specs.declared.fault.StoreFault.TheVariants.{Failed}
use Rattle.gb_store.specs.declared.mem_store.Fail.{Fail}
use Rattle.gb_store.specs.declared.store.Change.{Change}
use Rattle.gb_store.specs.declared.store.Content.{Content}
use Rattle.gb_store.specs.declared.store.Content.TheVariants.{Absent, Whole, Long}

-- a file of at most the limit is told whole
pub TellsFile-whole : (bytes : List ℕ) (limit : ℕ) (read : Content) → length bytes ≤ limit → TellsFile (Some bytes) limit read → read ≡ Whole bytes
TellsFile-whole bytes limit Absent le tells = absurd cc
TellsFile-whole bytes limit (Whole got) le tells = let is : got ≡ bytes = (let e = tells.0 in cc) in ap Whole is
TellsFile-whole bytes limit Long le tells =
    let is : tells.0 ≡ bytes = (let e = tells.1 in cc) in
    let size : length tells.0 ≡ length bytes = ap length is in
    let over = tells.2 in
    absurd (omega (arith, le, size, over))

-- a longer one is not
pub TellsFile-long : (bytes : List ℕ) (limit : ℕ) (read : Content) → limit < length bytes → TellsFile (Some bytes) limit read → read ≡ Long
TellsFile-long bytes limit Absent lt tells = absurd cc
TellsFile-long bytes limit (Whole got) lt tells =
    let is : got ≡ bytes = (let e = tells.0 in cc) in
    let size : length got ≡ length bytes = ap length is in
    let within = tells.1 in
    absurd (omega (arith, lt, size, within))
TellsFile-long bytes limit Long lt tells = refl

-- no file is told as none
pub TellsFile-none : (limit : ℕ) (read : Content) → TellsFile None limit read → read ≡ Absent
TellsFile-none limit Absent tells = refl
TellsFile-none limit (Whole got) tells = absurd (let e = tells.0 in cc)
TellsFile-none limit Long tells = absurd (let e = tells.1 in cc)

-- the entry for a call comes first
pub fail_at-listed : (entry : Fail) (later : List Fail) → fail_at entry.call (entry ∷ later) ≡ Some entry.after
fail_at-listed entry later =
    let same : (entry.call == entry.call) ≡ true = grind (arith, nat_tests) in
    rw same refl

-- an entry for another call says nothing
pub fail_at-other : (call : ℕ) (entry : Fail) (later : List Fail) → entry.call ≢ call → fail_at call (entry ∷ later) ≡ fail_at call later
fail_at-other call entry later other =
    let apart : (entry.call == call) ≡ false = grind (arith, nat_tests, other) in
    rw apart refl

pub faults-counted : (state : MemState) (after : Bool) → next_fail state ≡ Some after → (after_call state).faults ≡ raised state.faults
faults-counted state after e = ap (λ (o : Option Bool). cond (is_some o) (raised state.faults) state.faults) e

pub faults-kept : (state : MemState) → next_fail state ≡ None → (after_call state).faults ≡ state.faults
faults-kept state e = ap (λ (o : Option Bool). cond (is_some o) (raised state.faults) state.faults) e

-- a write that fails after it was made
pub failed_write-made : (change : Change) (old new : MemState) → next_fail old ≡ Some true → WriteAnswers change old new (Err Failed) → new.history ≡ change ∷ old.history
failed_write-made change old new listed (true, said, is) = ap (λ (s : MemState). s.history) is
failed_write-made change old new listed (false, said, is) = absurd cc

-- a write that fails before it was made
pub failed_write-unmade : (change : Change) (old new : MemState) → next_fail old ≡ Some false → WriteAnswers change old new (Err Failed) → new.history ≡ old.history
failed_write-unmade change old new listed (true, said, is) = absurd cc
failed_write-unmade change old new listed (false, said, is) = ap (λ (s : MemState). s.history) is
