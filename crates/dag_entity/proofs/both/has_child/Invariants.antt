use Rattle.std.proofs.Common.{take, Contains}
use Rattle.commit_walk.specs.declared.below.Met.{Met}
use Rattle.dag_entity.proofs.both.has_child.Given as goal

abbrev pub invariant-loop-met : goal.invariant-loop-met
invariant-loop-met l = (met : Met) → Contains (take l.met-index l.walk) met → Contains met.parents l.name → ⊥
