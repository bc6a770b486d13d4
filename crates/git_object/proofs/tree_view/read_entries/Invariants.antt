use Rattle.std.proofs.Common.{length, map}
use Rattle.git_object.specs.Reading.{entry_step, all_at}
use Rattle.git_object.specs.Views.{entry_seen}
use Rattle.git_object.proofs.RepeatLaws.{SoFar}
use Rattle.git_object.proofs.tree_view.read_entries.Given as goal

abbrev pub invariant-loop-entry : goal.invariant-loop-entry
invariant-loop-entry l = SoFar entry_step (map entry_seen l.entries.items) l.rest (all_at entry_step l.content)

abbrev pub decreases-loop-entry : goal.decreases-loop-entry
decreases-loop-entry l = length l.rest
