use Rattle.std.proofs.Common.{◌≡◌, drop}
use Rattle.row_text.specs.Lists.{ascend_from, keys_of}
use Rattle.row_text.proofs.lists.keys_ascend.Given as goal

abbrev pub invariant-loop-pair : goal.invariant-loop-pair
invariant-loop-pair l = ascend_from l.initial.last.key (keys_of l.rest) ≡ ascend_from l.last.key (keys_of (drop l.pair-index l.rest))
