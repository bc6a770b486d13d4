-- The state of a sink in memory.
use Rattle.std.specs.Prelude.{◌≡◌, ◌==◌, ℕ, Bool, List, [], ◌++◌, length, min, take, true, false, if◌then◌else◌, Result, Ok, Err}
use Rattle.std.specs.List.{list_any}
use Rattle.gb_store.specs.Counts.{raised}
use Rattle.gb_store.specs.declared.fault.SinkFault.{SinkFault}
use Rattle.gb_store.specs.declared.fault.SinkFault.TheVariants.{Memory, Failed}

-- its bytes, the numbers of the writes that fail, the most bytes that a write takes, the number of
-- the next write, and how many have failed
pub record SinkState : Type 0 where
  pub written : List ℕ
  pub fails : List ℕ
  pub step : ℕ
  pub calls : ℕ
  pub faults : ℕ

-- how often it has failed
abbrev pub fault_count : SinkState → ℕ
fault_count s = s.faults

-- no write is listed
abbrev pub has_no_fails : SinkState → Bool
has_no_fails s = length s.fails == 0

-- nothing written
abbrev pub empty_sink : List ℕ → ℕ → SinkState
empty_sink fails step = record { written = []; fails = fails; step = step; calls = 0; faults = 0 }

-- the next write is listed
abbrev pub is_listed : SinkState → Bool
is_listed s = list_any (λ call. call == s.calls) s.fails

-- one write more, and one fault more where it is listed
abbrev pub counted : SinkState → SinkState
counted s = record s { calls = raised s.calls; faults = if is_listed s then raised s.faults else s.faults }

-- What a write of a piece does, by its answer: a listed write fails, and any other takes as much as
-- it may. Want of memory takes nothing.
abbrev pub SinkAnswers : List ℕ → SinkState → SinkState → Result ℕ SinkFault → Type 0
SinkAnswers bytes old new (Ok n) =
    (is_listed old ≡ false) × (n ≡ min (length bytes) old.step) × (new ≡ record (counted old) { written = old.written ++ take n bytes })
SinkAnswers bytes old new (Err Failed) = (is_listed old ≡ true) × (new ≡ counted old)
SinkAnswers bytes old new (Err Memory) = (is_listed old ≡ false) × (new ≡ counted old)
