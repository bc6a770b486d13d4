-- What the answers of the crates below are to a command that edits, and the numbers of refusals.
use Rattle.std.specs.Prelude.{ℕ}
use Rattle.gb_store.specs.declared.fault.StoreFault.{StoreFault}
use Rattle.gb_store.specs.declared.fault.StoreFault.TheVariants as store
use Rattle.object_store.specs.declared.fault.PutFault.{PutFault}
use Rattle.object_store.specs.declared.fault.PutFault.TheVariants as put
use Rattle.bug_edits.specs.declared.edit.EditStop.{EditStop}
use Rattle.bug_edits.specs.declared.edit.EditStop.TheVariants as edit
use Rattle.bug_edits.specs.declared.edit.NoChange.{NoChange}
use Rattle.bug_edits.specs.declared.edit.NoChange.TheVariants as no_change
use Rattle.repo_state.specs.declared.stop.FindStop.{FindStop}
use Rattle.repo_state.specs.declared.stop.FindStop.TheVariants as find
use Rattle.repo_state.specs.declared.stop.Missed.{Missed}
use Rattle.repo_state.specs.declared.stop.Missed.TheVariants as missed
use Rattle.repo_state.specs.declared.stop.ReadStop.{ReadStop}
use Rattle.repo_state.specs.declared.stop.ReadStop.TheVariants as read
use Rattle.repo_steps.specs.declared.refusal.Refusal.{Refusal}
use Rattle.repo_steps.specs.declared.refusal.Refusal.TheVariants as refusal
use Rattle.repo_steps.specs.declared.refusal.Stop.{Stop}
use Rattle.repo_steps.specs.declared.refusal.Stop.TheVariants as stop

abbrev pub stop_of_store : StoreFault → Stop
stop_of_store store.Memory = stop.Memory
stop_of_store store.Failed = stop.Disk

abbrev pub stop_of_read : ReadStop → Stop
stop_of_read read.Memory = stop.Memory
stop_of_read read.Disk = stop.Disk
stop_of_read (read.Damaged path) = stop.Refused (refusal.Damaged path)

-- how a command is refused whose argument finds nothing, or several
abbrev pub of_missed : Missed → Refusal
of_missed missed.NotFound = refusal.NotFound
of_missed (missed.Ambiguous least next) = refusal.Ambiguous least next
of_missed (missed.Damaged path) = refusal.Damaged path

abbrev pub stop_of_find : FindStop → Stop
stop_of_find find.Memory = stop.Memory
stop_of_find find.Disk = stop.Disk
stop_of_find (find.Missed m) = stop.Refused (of_missed m)

-- how an edit is refused that changes nothing
abbrev pub of_no_change : NoChange → Refusal
of_no_change no_change.SameStatus = refusal.SameStatus
of_no_change no_change.NoLabelChange = refusal.NoLabelChange

abbrev pub stop_of_edit : EditStop → Stop
stop_of_edit edit.Memory = stop.Memory
stop_of_edit (edit.NoChange why) = stop.Refused (of_no_change why)

abbrev pub stop_of_put : PutFault → Stop
stop_of_put put.Memory = stop.Memory
stop_of_put put.Disk = stop.Disk
stop_of_put (put.Large count) = stop.Refused (refusal.TooLarge count)
stop_of_put (put.Taken name) = stop.Refused (refusal.NameTaken name)

-- the number of a refusal
abbrev pub number_of : Refusal → ℕ
number_of refusal.NoUser = 1
number_of refusal.NotFound = 2
number_of (refusal.Ambiguous least next) = 3
number_of refusal.NoLabelChange = 5
number_of refusal.SameStatus = 6
number_of (refusal.ClockFull name) = 7
number_of (refusal.RepeatedOperation id) = 8
number_of (refusal.EntityExists id) = 9
number_of (refusal.NameTaken name) = 10
number_of (refusal.TooLarge count) = 13
number_of (refusal.Damaged path) = 14
