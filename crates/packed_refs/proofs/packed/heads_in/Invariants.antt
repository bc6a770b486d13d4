use Rattle.std.proofs.Common.{◌≡◌, length}
use Rattle.packed_refs.specs.Packed.{heads_in, refs_in}
use Rattle.packed_refs.proofs.LoopLemmas.{heads_from}
use Rattle.packed_refs.proofs.packed.heads_in.Given as goal

abbrev pub invariant-loop-rest : goal.invariant-loop-rest
invariant-loop-rest l = heads_from l.dir l.heads.items l.rest ≡ heads_in l.dir (refs_in l.text)

abbrev pub decreases-loop-rest : goal.decreases-loop-rest
decreases-loop-rest l = length l.rest
