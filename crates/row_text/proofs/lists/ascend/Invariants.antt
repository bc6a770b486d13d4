use Rattle.std.proofs.Common.{◌≡◌, drop}
use Rattle.row_text.specs.Lists.{ascend_from}
use Rattle.row_text.proofs.lists.ascend.Given as goal

abbrev pub invariant-loop-text : goal.invariant-loop-text
invariant-loop-text l = ascend_from l.initial.last l.rest ≡ ascend_from l.last (drop l.text-index l.rest)
