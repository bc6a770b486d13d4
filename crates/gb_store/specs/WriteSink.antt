-- A sink over a writer: what a write of a piece does, by its answer.
use Rattle.std.specs.Prelude.{◌≡◌, ◌<◌, ◌≤◌, ℕ, List, length, take, Option, Result, Ok, Err}
use Rattle.std.specs.Io.KnownBytes.{Appends, Keeps}
use Rattle.gb_store.specs.Counts.{raised}
use Rattle.gb_store.specs.declared.fault.SinkFault.{SinkFault}
use Rattle.gb_store.specs.declared.fault.SinkFault.TheVariants.{Memory, Failed}

-- the writer, and how often it has refused
pub record WriterState (W : Type 0) : Type 0 where
  pub writer : W
  pub faults : ℕ

-- so many first bytes went to the writer, at least one where there is one, and it has not refused
pub record TookFirst {W : Type 0} (contents : W → Option (List ℕ)) (bytes : List ℕ) (n : ℕ) (old new : WriterState W) : Type 0 where
  pub within : n ≤ length bytes
  pub progress : 0 < length bytes → 0 < n
  pub appended : Appends (contents old.writer) (contents new.writer) (take n bytes)
  pub faults : new.faults ≡ old.faults

-- nothing went to the writer, and it has refused once more
pub record TookNone {W : Type 0} (contents : W → Option (List ℕ)) (old new : WriterState W) : Type 0 where
  pub kept : Keeps (contents old.writer) (contents new.writer)
  pub faults : new.faults ≡ raised old.faults

-- what a write of a piece did
abbrev pub WriterAnswers : {W : Type 0} → (W → Option (List ℕ)) → List ℕ → WriterState W → WriterState W → Result ℕ SinkFault → Type 0
WriterAnswers contents bytes old new (Ok n) = TookFirst contents bytes n old new
WriterAnswers contents bytes old new (Err Failed) = TookNone contents old new
WriterAnswers contents bytes old new (Err Memory) = ⊥
