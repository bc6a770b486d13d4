use Rattle.std.proofs.Common.{◌≡◌, true, take}
use Rattle.std.specs.List.{All}
use Rattle.dag_entity.proofs.judge.check_ops.Given as goal

abbrev pub invariant-loop-op : goal.invariant-loop-op
invariant-loop-op g l = All (λ op. g.K.OpKind.meaning.is_following op ≡ true) (take l.op-index l.ops)
