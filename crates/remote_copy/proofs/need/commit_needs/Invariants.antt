use Rattle.std.proofs.Common.{◌≡◌, take}
use Rattle.remote_copy.specs.Needs.{commit_needs}
use Rattle.remote_copy.proofs.need.commit_needs.Given as goal

abbrev pub invariant-loop-parent : goal.invariant-loop-parent
invariant-loop-parent l = l.needs.items ≡ commit_needs l.fn.tree (take l.parent-index l.parents)
