use Rattle.std.proofs.Common.{◌≡◌, ◌==◌, ◌<◌, true, Some, ℕ}
use Rattle.std.specs.List.{AllByRecursion, slice_get}
use Rattle.dag_entity.specs.Judging.{later_ops}
use Rattle.dag_entity.specs.declared.entity.Placed.{Placed}
use Rattle.dag_entity.proofs.judge.check_following.Given as goal

abbrev pub invariant-loop-place : goal.invariant-loop-place
invariant-loop-place g l = (place : ℕ) (placed : Placed g.row.K.Denot) → place < l.place → slice_get l.packs place ≡ Some placed
    → AllByRecursion (λ op. g.K.OpKind.meaning.is_following op ≡ true) (later_ops g.K.OpKind.meaning (place == l.root) placed.pack.ops)
