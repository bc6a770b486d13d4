-- One label more is taken off.
use Rattle.std.proofs.Common.{◌∙◌}
use Rattle.bug_ops.proofs.LabelSets.{one_more_off}
use Rattle.bug_ops.proofs.labels.take_off.Goals as goal

pub loop-label-preserved : goal.loop-label-preserved
loop-label-preserved c = record {
  labels =
      c.loop-label.invariant.labels
      ∙ one_more_off c.loop-label.labels.keys c.remove.new.self.keys c.args.removed.now c.loop-label.label-index c.label-item.result c.loop-label-test.true c.label-item.is c.loop-label.invariant.ascend c.remove.ensures.keys;
  ascend = c.remove.ensures.ordered;
}
