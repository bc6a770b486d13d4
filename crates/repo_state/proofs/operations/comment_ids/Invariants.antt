-- The ids of the comments of the packs so far.
use Rattle.std.proofs.Common.{◌≡◌, flat_map, take}
use Rattle.bug_ops.specs.Kind.{bug_kind}
use Rattle.dag_entity.specs.Entities.{ops_in}
use Rattle.repo_state.specs.Seeking.{made_by}
use Rattle.repo_state.proofs.operations.comment_ids.Given as goal

abbrev pub invariant-loop-placed : goal.invariant-loop-placed
invariant-loop-placed l = l.ids.items ≡ flat_map made_by (ops_in bug_kind (take l.placed-index l.packs))
