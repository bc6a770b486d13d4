use Rattle.std.proofs.Common.{◌≡◌, drop, map}
use Rattle.std.specs.List.{find}
use Rattle.git_object.specs.Views.{entry_seen}
use Rattle.op_pack.specs.Heads.{is_ops}
use Rattle.op_pack.proofs.head.ops_in.Given as goal

abbrev pub invariant-loop-entry : goal.invariant-loop-entry
invariant-loop-entry l = find is_ops (map entry_seen (drop l.entry-index l.entry-items)) ≡ find is_ops (map entry_seen l.tree.entries)
