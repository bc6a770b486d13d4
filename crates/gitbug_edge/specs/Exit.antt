-- The number that the program ends with.
use Rattle.std.specs.Prelude.{ℕ, Result, Ok, Err}
use Rattle.bug_run.specs.declared.status.Status.{Status}
use Rattle.bug_run.specs.declared.status.Status.TheVariants.{Done, Refused, Usage, DiskFault, Memory, OutFault}

-- the number of a status
abbrev pub exit_number : Status → ℕ
exit_number Done = 0
exit_number (Refused refusal) = 1
exit_number Usage = 2
exit_number DiskFault = 3
exit_number Memory = 4
exit_number OutFault = 5

-- the number of a run that was started with a status, or could not be started
abbrev pub started_number : {E : Type 0} → Result Status E → ℕ
started_number (Ok status) = exit_number status
started_number (Err error) = 6
