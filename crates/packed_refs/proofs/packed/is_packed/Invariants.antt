use Rattle.std.proofs.Common.{◌≡◌, length}
use Rattle.packed_refs.specs.Packed.{is_packed}
use Rattle.packed_refs.proofs.packed.is_packed.Given as goal

abbrev pub invariant-loop-rest : goal.invariant-loop-rest
invariant-loop-rest l = is_packed l.rest ≡ is_packed l.text

abbrev pub decreases-loop-rest : goal.decreases-loop-rest
decreases-loop-rest l = length l.rest
