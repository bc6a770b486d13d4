use Rattle.std.proofs.Common.{◌≡◌, drop}
use Rattle.std.specs.List.{flat_map}
use Rattle.op_kind.specs.Fold.{state_from}
use Rattle.bug_ops.specs.Kind.{bug_kind}
use Rattle.bug_ops.specs.Snapshots.{empty_snapshot}
use Rattle.bug_pack_tests.proofs.callers.bug_of_packs.Given as goal

abbrev pub invariant-loop-pack : goal.invariant-loop-pack
invariant-loop-pack l =
    state_from bug_kind empty_snapshot (flat_map (λ pack. pack.ops) l.packs)
    ≡ state_from bug_kind l.fold (flat_map (λ pack. pack.ops) (drop l.pack-index l.packs))
