use Rattle.std.proofs.Common.{take}
use Rattle.dag_entity.specs.Judging.{IsSetOf}
use Rattle.dag_entity.proofs.judge.set_of.Given as goal

abbrev pub invariant-loop-id : goal.invariant-loop-id
invariant-loop-id l = IsSetOf l.known (take l.id-index l.ids)
