use Rattle.std.proofs.Common.{not}
use Rattle.std.specs.Prelude.{filter}
use Rattle.bug_ops.specs.Mentions.{is_among}
use Rattle.snapshot.proofs.LabelLemmas.{order_ascends}
use Rattle.bug_edits.proofs.laws.changed_labels_ascend.Goals as goal

pub returns-clause-put_on : goal.returns-clause-put_on
returns-clause-put_on c = λ on named. order_ascends (filter (λ label. not (is_among on label)) named)

pub returns-clause-taken_off : goal.returns-clause-taken_off
returns-clause-taken_off c = λ on named. order_ascends (filter (is_among on) named)
