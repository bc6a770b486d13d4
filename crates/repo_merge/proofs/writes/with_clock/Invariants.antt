-- The changes so far and those that are left are all changes.
use Rattle.std.proofs.Common.{◌≡◌, ◌++◌}
use Rattle.repo_state.specs.Clocks.{see_writes}
use Rattle.repo_merge.proofs.writes.with_clock.Given as goal

-- what was pushed, and the changes that are left, are the writes and those of the clock
abbrev pub invariant-loop-change : goal.invariant-loop-change
invariant-loop-change l =
    l.writes.items ++ l.change-iterator.rest.items ≡ l.fn.writes.items ++ see_writes l.fn.folder l.fn.which l.fn.clock l.fn.number
