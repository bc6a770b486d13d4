use Rattle.std.proofs.Common.{◌≡◌, take}
use Rattle.dag_entity.specs.Judging.{all_ids}
use Rattle.dag_entity.proofs.judge.all_ids.Given as goal

abbrev pub invariant-loop-placed : goal.invariant-loop-placed
invariant-loop-placed g l = l.ids.items ≡ all_ids g.K.OpKind.meaning (take l.placed-index l.packs)
