-- The labels so far and those that are left are all labels.
use Rattle.std.proofs.Common.{◌≡◌, ◌++◌}
use Rattle.bug_edits.proofs.labels.listed.Given as goal

abbrev pub invariant-loop-label : goal.invariant-loop-label
invariant-loop-label l = l.fn.labels.keys ≡ l.list.items ++ l.label-iterator
