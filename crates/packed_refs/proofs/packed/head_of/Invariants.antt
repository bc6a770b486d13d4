use Rattle.std.proofs.Common.{◌≡◌, length}
use Rattle.packed_refs.specs.Packed.{head_of, refs_in}
use Rattle.packed_refs.proofs.LoopLemmas.{head_from}
use Rattle.packed_refs.proofs.packed.head_of.Given as goal

abbrev pub invariant-loop-name : goal.invariant-loop-name
invariant-loop-name l = head_from l.name l.found l.rest ≡ head_of l.name (refs_in l.text)

abbrev pub decreases-loop-name : goal.decreases-loop-name
decreases-loop-name l = length l.rest
