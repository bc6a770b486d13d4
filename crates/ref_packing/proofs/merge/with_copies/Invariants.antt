use Rattle.std.proofs.Common.{◌≡◌, take, ◌++◌}
use Rattle.ref_packing.proofs.merge.with_copies.Given as goal

abbrev pub invariant-loop-one : goal.invariant-loop-one
invariant-loop-one l = l.all.items ≡ l.fn.before ++ take l.one-index l.taken
