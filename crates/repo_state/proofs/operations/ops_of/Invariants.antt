-- The operations of the packs so far, and of those that are left.
use Rattle.std.proofs.Common.{◌≡◌, ◌++◌}
use Rattle.bug_ops.specs.Kind.{bug_kind}
use Rattle.dag_entity.specs.Entities.{ops_in}
use Rattle.repo_state.proofs.operations.ops_of.Given as goal

-- what was put so far, and the operations of the packs that are left, are those of all packs
abbrev pub invariant-loop-placed : goal.invariant-loop-placed
invariant-loop-placed l = l.ops.items ++ ops_in bug_kind l.placed-iterator.rest.items ≡ ops_in bug_kind l.fn.packs
