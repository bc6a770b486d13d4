use Rattle.std.proofs.Common.{◌≡◌, drop}
use Rattle.op_kind.specs.Fold.{state_from}
use Rattle.op_kind_tests.proofs.kinds.fold.Given as goal

abbrev pub invariant-loop-op : goal.invariant-loop-op
invariant-loop-op g l = record {
  state : state_from g.K.OpKind.meaning g.K.OpKind.meaning.initial l.ops ≡ state_from g.K.OpKind.meaning l.state (drop l.op-index l.ops);
  row : l.row ≡ g.K.OpKind.meaning.row_of l.state;
}
