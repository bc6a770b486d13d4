use Rattle.std.proofs.Common.{◌≡◌, map, ◌++◌}
use Rattle.op_kind.specs.Metadata.{pair_of}
use Rattle.bug_ops.proofs.pairs.copy_entries.Given as goal

abbrev pub invariant-loop-key : goal.invariant-loop-key
invariant-loop-key l = map pair_of l.fn.entries.entries ≡ l.copies.items ++ map pair_of l.key-iterator
