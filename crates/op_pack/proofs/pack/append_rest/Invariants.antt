-- What was put, and what is left to put, is all that is put.
use Rattle.std.proofs.Common.{◌≡◌, map, drop, ◌++◌}
use Rattle.json_span.specs.Joined.{behind_commas}
use Rattle.op_pack.specs.Packs.{written_ids}
use Rattle.op_pack.proofs.pack.append_rest.Given as goal

abbrev pub invariant-loop-op : goal.invariant-loop-op
invariant-loop-op g l =
    (l.initial.text.items ++ behind_commas (map g.K.OpKind.meaning.written l.ops)
    ≡ l.text.items ++ behind_commas (map g.K.OpKind.meaning.written (drop l.op-index l.ops)))
    × (l.initial.ids.items ++ written_ids g.K.OpKind.meaning l.ops
    ≡ l.ids.items ++ written_ids g.K.OpKind.meaning (drop l.op-index l.ops))
