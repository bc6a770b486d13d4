use Rattle.std.proofs.Common.{take}
use Rattle.commit_walk.specs.Distinct.{AreDistinct}
use Rattle.dag_entity.specs.Judging.{IsSetOf}
use Rattle.dag_entity.proofs.judge.check_distinct.Given as goal

abbrev pub invariant-loop-id : goal.invariant-loop-id
invariant-loop-id l = record {
  once : AreDistinct (take l.id-index l.ids);
  known : IsSetOf l.known (take l.id-index l.ids);
}
