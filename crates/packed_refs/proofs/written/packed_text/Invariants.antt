use Rattle.std.proofs.Common.{◌≡◌, take}
use Rattle.packed_refs.specs.Written.{packed_text}
use Rattle.packed_refs.proofs.written.packed_text.Given as goal

abbrev pub invariant-loop-one : goal.invariant-loop-one
invariant-loop-one l = l.text.items ≡ packed_text (take l.one-index l.refs)
