-- The operations so far and those that are left are all operations.
use Rattle.std.proofs.Common.{◌≡◌, ◌++◌}
use Rattle.repo_state.proofs.operations.append.Given as goal

-- what was put behind the others, and what is left, are the others and all that is to be put
abbrev pub invariant-loop-op : goal.invariant-loop-op
invariant-loop-op l = l.ops.items ++ l.op-iterator.rest.items ≡ l.initial.ops.items ++ l.fn.more
