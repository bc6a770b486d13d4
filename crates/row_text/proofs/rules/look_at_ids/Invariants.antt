use Rattle.std.proofs.Common.{drop}
use Rattle.row_text.specs.RowForms.{AreIds}
use Rattle.row_text.proofs.rules.look_at_ids.Given as goal

abbrev pub invariant-loop-id : goal.invariant-loop-id
invariant-loop-id l = AreIds (drop l.id-index l.ids) → AreIds l.ids
