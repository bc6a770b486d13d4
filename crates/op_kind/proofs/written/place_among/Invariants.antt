use Rattle.std.proofs.Common.{◌≡◌, ◌+◌, drop}
use Rattle.op_kind.specs.FieldLists.{fields_for}
use Rattle.op_kind.specs.NameOrder.{place_among}
use Rattle.op_kind.proofs.written.place_among.Given as goal

abbrev pub invariant-loop-place : goal.invariant-loop-place
invariant-loop-place l = place_among l.name (fields_for l.members) ≡ l.place + place_among l.name (fields_for (drop l.place l.members))
