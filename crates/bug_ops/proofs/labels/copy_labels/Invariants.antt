use Rattle.std.proofs.Common.{◌≡◌, ◌++◌}
use Rattle.bug_ops.proofs.labels.copy_labels.Given as goal

abbrev pub invariant-loop-label : goal.invariant-loop-label
invariant-loop-label l = l.fn.labels.keys ≡ l.copies.items ++ l.label-iterator
