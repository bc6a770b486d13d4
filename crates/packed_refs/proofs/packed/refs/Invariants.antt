use Rattle.std.proofs.Common.{◌≡◌, length}
use Rattle.packed_refs.specs.Packed.{refs_in}
use Rattle.packed_refs.proofs.LoopLemmas.{refs_from}
use Rattle.packed_refs.proofs.packed.refs.Given as goal

abbrev pub invariant-loop-rest : goal.invariant-loop-rest
invariant-loop-rest l = refs_from l.refs.items l.rest ≡ refs_in l.text

abbrev pub decreases-loop-rest : goal.decreases-loop-rest
decreases-loop-rest l = length l.rest
