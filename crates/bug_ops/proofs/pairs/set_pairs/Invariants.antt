use Rattle.std.proofs.Common.{◌≡◌, drop}
use Rattle.bug_ops.specs.Snapshots.{with_pairs}
use Rattle.bug_ops.proofs.pairs.set_pairs.Given as goal

abbrev pub invariant-loop-pair : goal.invariant-loop-pair
invariant-loop-pair l = with_pairs l.fn.entries.entries l.pairs ≡ with_pairs l.entries.entries (drop l.pair-index l.pairs)
