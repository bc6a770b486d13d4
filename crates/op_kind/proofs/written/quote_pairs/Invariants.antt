use Rattle.std.proofs.Common.{◌≡◌, ◌++◌, map, drop}
use Rattle.op_kind.specs.Pairs.{field_of}
use Rattle.op_kind.proofs.written.quote_pairs.Given as goal

abbrev pub invariant-loop-pair : goal.invariant-loop-pair
invariant-loop-pair l =
    map field_of l.pairs
    ≡ map (λ m. (m.name.now, m.value)) l.members.items ++ map field_of (drop l.pair-index l.pairs)
