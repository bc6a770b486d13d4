use Rattle.std.proofs.Common.{◌↔◌, drop}
use Rattle.bug_ops.specs.BugForms.{AreLabels}
use Rattle.row_text.proofs.rules.are_titles.Given as goal

abbrev pub invariant-loop-label : goal.invariant-loop-label
invariant-loop-label l = AreLabels (drop l.label-index l.labels) ↔ AreLabels l.labels
