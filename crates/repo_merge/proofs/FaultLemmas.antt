-- The faults of a merge's calls, one after the other.
use Rattle.std.proofs.Common.{◌≡◌, ℕ, Bool, Result, Err, arith, refl}
use Rattle.gb_store.specs.Faults.{KeepsFaults}
use Rattle.gb_store.specs.declared.fault.StoreFault.{StoreFault}
use Rattle.gb_store.specs.declared.fault.StoreFault.TheVariants as store
use Rattle.gb_store.proofs.FaultLemmas.{KeepsFaults_then}
use Rattle.merge_steps.specs.Stops.{stop_of_store, stop_of_turn}
use Rattle.merge_steps.specs.declared.stop.MergeStop.{MergeStop}
use Rattle.merge_steps.specs.declared.stop.MergeStop.TheVariants as stop
use Rattle.merge_steps.specs.declared.stop.TurnStop.{TurnStop}
use Rattle.merge_steps.specs.declared.stop.TurnStop.TheVariants as turn

-- ---- what is told as a fault of the disk

module _ {A B : Type 0} (got : Result A MergeStop) where
  module _ (was : Result B StoreFault) where
    pub store_failed : (fault : StoreFault) → got ≡ Err (stop_of_store fault) → was ≡ Err fault → got ≡ Err stop.Disk → was ≡ Err store.Failed
    store_failed store.Memory is told fails = absurd (let no : stop.Memory ≡ stop.Disk = cc in cc)
    store_failed store.Failed is told fails = told

    pub disk_of_store : (fault : StoreFault) → got ≡ Err (stop_of_store fault) → was ≡ Err fault → was ≡ Err store.Failed → got ≡ Err stop.Disk
    disk_of_store store.Memory is told failed = absurd (let no : store.Memory ≡ store.Failed = cc in cc)
    disk_of_store store.Failed is told failed = is

  module _ (was : Result B TurnStop) where
    pub turn_failed : (why : TurnStop) → got ≡ Err (stop_of_turn why) → was ≡ Err why → got ≡ Err stop.Disk → was ≡ Err turn.Disk
    turn_failed turn.Memory is told fails = absurd (let no : stop.Memory ≡ stop.Disk = cc in cc)
    turn_failed turn.Disk is told fails = told
    turn_failed (turn.Damaged path) is told fails = absurd (let no : stop.Damaged path ≡ stop.Disk = cc in cc)
    turn_failed (turn.Taken name) is told fails = absurd (let no : stop.Taken name ≡ stop.Disk = cc in cc)

    pub disk_of_turn : (why : TurnStop) → got ≡ Err (stop_of_turn why) → was ≡ Err why → was ≡ Err turn.Disk → got ≡ Err stop.Disk
    disk_of_turn turn.Memory is told failed = absurd (let no : turn.Memory ≡ turn.Disk = cc in cc)
    disk_of_turn turn.Disk is told failed = is
    disk_of_turn (turn.Damaged path) is told failed = absurd (let no : turn.Damaged path ≡ turn.Disk = cc in cc)
    disk_of_turn (turn.Taken name) is told failed = absurd (let no : turn.Taken name ≡ turn.Disk = cc in cc)

-- ---- one call behind others

module _ {S : Type 0} (never_fails : S → Bool) (faults : S → ℕ) where
  -- a call that did not fail
  pub not_failed : (failed : Type 0) (old new : S) → KeepsFaults never_fails faults failed old new → (failed → ⊥) → KeepsFaults never_fails faults ⊥ old new
  not_failed failed old new call calm = record {
    counts = call.counts;
    cause = λ never. absurd never;
    told = λ never. call.told calm;
    calm = λ sound. (λ never. never, (call.calm sound).1);
  }

  -- no call
  pub kept : (disk : S) → KeepsFaults never_fails faults ⊥ disk disk
  kept disk = record { counts = omega arith; cause = λ never. absurd never; told = λ calm. refl; calm = λ calm. (λ never. never, calm) }

  -- one behind three that did not fail
  pub three_then : (failed whole : Type 0) (old one two three new : S) → KeepsFaults never_fails faults ⊥ old one → KeepsFaults never_fails faults ⊥ one two → KeepsFaults never_fails faults ⊥ two three
      → KeepsFaults never_fails faults failed three new → (whole → failed) → (failed → whole) → KeepsFaults never_fails faults whole old new
  three_then failed whole old one two three new first second third last causes told =
      let both = KeepsFaults_then never_fails faults ⊥ ⊥ old one two first second (λ never. never) (λ never. never) in
      let all = KeepsFaults_then never_fails faults ⊥ ⊥ old two three both third (λ never. never) (λ never. never) in
      KeepsFaults_then never_fails faults failed whole old three new all last causes told
