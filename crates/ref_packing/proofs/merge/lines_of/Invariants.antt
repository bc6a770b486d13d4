use Rattle.std.proofs.Common.{◌≡◌, map, ◌++◌}
use Rattle.ref_packing.specs.Merging.{ref_of_pair}
use Rattle.ref_packing.proofs.merge.lines_of.Given as goal

abbrev pub invariant-loop-name : goal.invariant-loop-name
invariant-loop-name l = map ref_of_pair l.fn.last.entries ≡ l.lines.items ++ map ref_of_pair l.name-iterator
