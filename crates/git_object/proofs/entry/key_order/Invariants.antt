use Rattle.std.proofs.Common.{◌≡◌, ◌-◌, length, drop}
use Rattle.git_object.specs.Grammar.{sort_key}
use Rattle.git_object.proofs.DistinctLaws.{cmp}
use Rattle.git_object.proofs.entry.key_order.Given as goal

abbrev pub invariant-loop-x : goal.invariant-loop-x
invariant-loop-x l = cmp (drop l.i (sort_key l.a)) (drop l.i (sort_key l.b)) ≡ cmp (sort_key l.a) (sort_key l.b)

abbrev pub decreases-loop-x : goal.decreases-loop-x
decreases-loop-x l = length (sort_key l.a) - l.i
