-- The ids of the comments that the operations so far make.
use Rattle.std.proofs.Common.{◌≡◌, ◌++◌, flat_map, take}
use Rattle.repo_state.specs.Seeking.{made_by}
use Rattle.repo_state.proofs.operations.append_ids.Given as goal

abbrev pub invariant-loop-op : goal.invariant-loop-op
invariant-loop-op l = l.ids.items ≡ l.initial.ids.items ++ flat_map made_by (take l.op-index l.ops)
