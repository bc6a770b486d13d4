use Rattle.std.proofs.Common.{◌≡◌, ◌++◌, map, take}
use Rattle.dag_entity.proofs.judge.add_ids.Given as goal

abbrev pub invariant-loop-op : goal.invariant-loop-op
invariant-loop-op g l = l.ids.items ≡ l.fn.ids.items ++ map (λ op. (g.K.OpKind.meaning.common_of op).place.id) (take l.op-index l.pack.ops)
