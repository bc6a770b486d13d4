use Rattle.std.proofs.Common.{◌≡◌, ◌++◌}
use Rattle.bug_ops.proofs.labels.labels_of.Given as goal

abbrev pub invariant-loop-label : goal.invariant-loop-label
invariant-loop-label l = l.fn.labels.keys ≡ l.kept.items ++ l.label-iterator
