use Rattle.std.proofs.Common.{length}
use Rattle.git_object.specs.Reading.{parent_at, all_at}
use Rattle.git_object.proofs.RepeatLaws.{SoFar}
use Rattle.git_object.proofs.commit_view.read_parents.Given as goal

abbrev pub invariant-loop-parent : goal.invariant-loop-parent
invariant-loop-parent l = SoFar parent_at l.parents.items l.rest (all_at parent_at l.bytes)

abbrev pub decreases-loop-parent : goal.decreases-loop-parent
decreases-loop-parent l = length l.rest
