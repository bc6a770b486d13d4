use Rattle.bug_ops.proofs.LabelLaws.{label_change}
use Rattle.bug_ops.proofs.laws.labels_go_by_mention.Goals as goal

pub returns : goal.returns
returns c = λ common. label_change
