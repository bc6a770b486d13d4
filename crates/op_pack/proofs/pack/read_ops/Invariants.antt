use Rattle.std.proofs.Common.{◌≡◌, map, drop, ◌++◌}
use Rattle.std.specs.Option.{option_map}
use Rattle.op_pack.specs.Packs.{ops_at}
use Rattle.op_pack.proofs.pack.read_ops.Given as goal

abbrev pub invariant-loop-i : goal.invariant-loop-i
invariant-loop-i g l =
    ops_at g.K.OpKind.meaning l.head l.author (map (λ s. s.now) l.slices)
    ≡ option_map (λ rest. l.ops.items ++ rest) (ops_at g.K.OpKind.meaning l.head l.author (map (λ s. s.now) (drop l.i l.slices)))
