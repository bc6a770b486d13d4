-- Pairs are in order once they were joined.
use Rattle.std.proofs.Common.{◌∙◌, sym, ap, subst, map}
use Rattle.op_kind.specs.Metadata.{pair_of}
use Rattle.op_kind.specs.Pairs.{AreInKeyOrder}
use Rattle.bug_ops.specs.Folds.{pairs_in}
use Rattle.bug_ops.specs.Snapshots.{with_pairs}
use Rattle.bug_ops.proofs.OrderLaws.{joined_ascend}
use Rattle.bug_ops.proofs.metadata.join.Goals as goal

pub returns-clause-ascend : goal.returns-clause-ascend
returns-clause-ascend c =
    subst (λ es. AreInKeyOrder (map pair_of es)) (sym (c.in_ok-set_pairs.ensures ∙ ap (λ es. with_pairs es c.args.pairs.now) c.in_ok-entries.ensures))
    (joined_ascend (pairs_in c.replace-before.result) c.args.pairs.now)
