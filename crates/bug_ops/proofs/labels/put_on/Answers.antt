-- One label more is put on.
use Rattle.std.proofs.Common.{◌∙◌}
use Rattle.bug_ops.proofs.LabelSets.{one_more_on}
use Rattle.bug_ops.proofs.labels.put_on.Goals as goal

pub loop-label-preserved : goal.loop-label-preserved
loop-label-preserved c = record {
  labels =
      c.loop-label.invariant.labels
      ∙ one_more_on c.loop-label.labels.keys c.insert.new.self.keys c.args.added.now c.loop-label.label-index c.label-item.result c.in_ok-copy_text.field-0 c.loop-label-test.true c.label-item.is c.in_ok-copy_text.ensures c.in_ok-insert.ensures.keys;
  ascend = c.insert.ensures.ordered;
}
