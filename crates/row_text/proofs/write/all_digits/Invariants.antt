use Rattle.std.proofs.Common.{◌≡◌, ◌++◌, map, drop}
use Rattle.row_text.specs.Lists.{digits_of}
use Rattle.row_text.proofs.write.all_digits.Given as goal

abbrev pub invariant-loop-id : goal.invariant-loop-id
invariant-loop-id l = map digits_of l.ids ≡ l.texts.items ++ map digits_of (drop l.id-index l.ids)
