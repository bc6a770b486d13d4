use Rattle.std.proofs.Common.{◌≡◌, ℕ, IfOk, Option, Some, subst}
use Rattle.git_object.specs.Grammar.{HasGoodNames}
use Rattle.op_kind.specs.declared.place.TheConstants.{VERSION}
use Rattle.op_pack.specs.Heads.{IsClock, head_of, tree_with}
use Rattle.op_pack.proofs.TreeLemmas.{tree_head, tree_names, of_made}
use Rattle.op_pack.proofs.head.tree_for.Goals as goal

pub returns-clause-edit : goal.returns-clause-edit
returns-clause-edit c = subst IsClock c.number.ensures.value (record { low = c.number.ensures.low; high = c.number.ensures.high })

pub returns-clause-tree : goal.returns-clause-tree
returns-clause-tree c =
    subst (λ (e : ℕ). IfOk c.make_tree.result (λ t. t ≡ tree_with e c.args.create c.args.ops.now)) c.number.ensures.value
    (subst (λ (o : Option ℕ). IfOk c.make_tree.result (λ t. t ≡ tree_with c.number.result o c.args.ops.now)) c.create_number.ensures.same c.make_tree.ensures)

pub returns-clause-head : goal.returns-clause-head
returns-clause-head c =
    of_made (λ t. head_of t ≡ Some (record { version = VERSION; edit = c.args.edit; create = c.args.create; ops = c.args.ops.now })) (tree_with c.args.edit c.args.create c.args.ops.now)
    c.make_tree.result (returns-clause-tree c) (tree_head c.args.edit c.args.create c.args.ops.now (returns-clause-edit c) c.create_number.ensures.clock)

pub returns-clause-names : goal.returns-clause-names
returns-clause-names c =
    of_made HasGoodNames (tree_with c.args.edit c.args.create c.args.ops.now)
    c.make_tree.result (returns-clause-tree c) (tree_names c.args.edit c.args.create c.args.ops.now (returns-clause-edit c) c.create_number.ensures.clock)
