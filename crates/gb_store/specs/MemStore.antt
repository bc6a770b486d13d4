-- The state of a store in memory, and what its calls do.
use Rattle.std.specs.Prelude.{◌≡◌, ◌≢◌, ◌==◌, ℕ, Bool, List, [], ◌∷◌, Option, Some, None, find, length, is_some, false, if◌then◌else◌, Result, Ok, Err}
use Rattle.std.specs.Option.{option_map}
use Rattle.gb_store.specs.declared.store.Change.{Change}
use Rattle.gb_store.specs.declared.fault.StoreFault.{StoreFault}
use Rattle.gb_store.specs.declared.fault.StoreFault.TheVariants.{Memory, Failed}
use Rattle.gb_store.specs.declared.mem_store.Fail.{Fail}
use Rattle.gb_store.specs.Counts.{raised}
use Rattle.gb_store.specs.Files.{History}
use Rattle.gb_store.specs.Moments.{first_writes}
use Rattle.gb_store.specs.ObjectPath.{reads_after}

-- its writes, the calls that fail, the number of the next call, how many have failed and how many
-- read an object's path
pub record MemState : Type 0 where
  pub history : History
  pub fails : List Fail
  pub calls : ℕ
  pub faults : ℕ
  pub reads : ℕ

-- how often it has failed
abbrev pub fault_count : MemState → ℕ
fault_count s = s.faults

-- no call is listed
abbrev pub has_no_fails : MemState → Bool
has_no_fails s = length s.fails == 0

-- nothing written, and no call made
abbrev pub empty_store : List Fail → MemState
empty_store fails = record { history = []; fails = fails; calls = 0; faults = 0; reads = 0 }

-- what the first entry for a call says: whether its write is made; none where no entry is for it
abbrev pub fail_at : ℕ → List Fail → Option Bool
fail_at call fails = option_map (λ f. f.after) (find (λ f. f.call == call) fails)

-- what the list says of the next call
abbrev pub next_fail : MemState → Option Bool
next_fail s = fail_at s.calls s.fails

-- one call more, and one fault more where it is listed
abbrev pub after_call : MemState → MemState
after_call s = record s { calls = raised s.calls; faults = if is_some (next_fail s) then raised s.faults else s.faults }

-- one call more, which memory ran out in: no fault
abbrev pub out_of_memory : MemState → MemState
out_of_memory s = record s { calls = raised s.calls }

-- one call more, which read a path
abbrev pub after_read : List ℕ → MemState → MemState
after_read path s = record (after_call s) { reads = reads_after path s.reads }

-- one write more
abbrev pub with_write : Change → MemState → MemState
with_write change s = record s { history = change ∷ s.history }

-- the first writes alone, as many as the count says; the counts stay
abbrev pub cut_to : ℕ → MemState → MemState
cut_to count s = record s { history = first_writes count s.history }

-- A call that only reads fails exactly where it is listed. Want of memory comes only where it is
-- not.
abbrev pub ReadAnswers : {T : Type 0} → MemState → Result T StoreFault → (T → Type 0) → Type 0
ReadAnswers old (Ok value) Tells = (next_fail old ≡ None) × Tells value
ReadAnswers old (Err Failed) Tells = next_fail old ≢ None
ReadAnswers old (Err Memory) Tells = next_fail old ≡ None

-- A write fails only where its call is listed, and is then made or not as the first entry for it
-- says. Want of memory makes no write and counts no fault, and comes in a listed call only where its
-- write was to be made.
abbrev pub WriteAnswers : Change → MemState → MemState → Result Unit StoreFault → Type 0
WriteAnswers change old new (Ok _) = (next_fail old ≡ None) × (new ≡ with_write change (after_call old))
WriteAnswers change old new (Err Failed) =
    (after : Bool) × (next_fail old ≡ Some after) × (new ≡ (if after then with_write change (after_call old) else after_call old))
WriteAnswers change old new (Err Memory) = (next_fail old ≢ Some false) × (new ≡ out_of_memory old)
