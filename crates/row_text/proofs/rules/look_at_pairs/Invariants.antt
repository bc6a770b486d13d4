use Rattle.std.proofs.Common.{drop}
use Rattle.op_kind.specs.Pairs.{EachPairUtf8}
use Rattle.row_text.proofs.rules.look_at_pairs.Given as goal

abbrev pub invariant-loop-pair : goal.invariant-loop-pair
invariant-loop-pair l = EachPairUtf8 (drop l.pair-index l.pairs) → EachPairUtf8 l.pairs
