use Rattle.std.proofs.Common.{inl, inr}
use Rattle.commit_pack.proofs.laws.commit_pack_faults_are_exact.Goals as goal

pub returns-clause-needs : goal.returns-clause-needs
returns-clause-needs g c = λ objects tree at. (λ f. f, λ f. f)

pub returns-clause-names_ops : goal.returns-clause-names_ops
returns-clause-names_ops g c = λ objects tree ops. (λ f. (f.tree, f.held, f.named), λ f. record { tree = f.0; held = f.1; named = f.2 })

pub returns-clause-memory : goal.returns-clause-memory
returns-clause-memory g c = λ objects tree f. f

pub returns-clause-disk : goal.returns-clause-disk
returns-clause-disk g c = λ objects tree f. f

pub returns-clause-missing : goal.returns-clause-missing
returns-clause-missing g c = λ objects tree at. (λ f. f, λ f. f)

pub returns-clause-large : goal.returns-clause-large
returns-clause-large g c = λ objects tree at. (λ f. (f.0, (f.1.text, f.1.stands, f.1.long)), λ f. (f.0, record { text = f.1.0; stands = f.1.1; long = f.1.2 }))

pub returns-clause-damaged : goal.returns-clause-damaged
returns-clause-damaged g c = λ objects tree at. (
  λ f. (f.0, (f.1.text, f.1.stands, f.1.within, f.1.is_none)),
  λ f. (f.0, record { text = f.1.0; stands = f.1.1; within = f.1.2; is_none = f.1.3 }),
)

pub returns-clause-bad_tree : goal.returns-clause-bad_tree
returns-clause-bad_tree g c = λ objects tree. (λ f. (f.object, f.held, f.is_none), λ f. record { object = f.0; held = f.1; is_none = f.2 })

pub returns-clause-version : goal.returns-clause-version
returns-clause-version g c = λ objects tree number. (λ f. (f.tree, f.held, f.fails), λ f. record { tree = f.0; held = f.1; fails = f.2 })

pub returns-clause-no_ops : goal.returns-clause-no_ops
returns-clause-no_ops g c = λ objects tree. (
  λ f. elim f [
    | inl tree ↦ inl (tree.tree, tree.held, tree.fails)
    | inr ops ↦ inr (ops.ops, ops.names, (ops.is_other.object, ops.is_other.held, ops.is_other.is_none))
  ],
  λ f. elim f [
    | inl tree ↦ inl (record { tree = tree.0; held = tree.1; fails = tree.2 })
    | inr ops ↦ inr (record { ops = ops.0; names = ops.1; is_other = record { object = ops.2.0; held = ops.2.1; is_none = ops.2.2 } })
  ],
)

pub returns-clause-bad_clock : goal.returns-clause-bad_clock
returns-clause-bad_clock g c = λ objects tree. (λ f. (f.tree, f.held, f.fails), λ f. record { tree = f.0; held = f.1; fails = f.2 })

pub returns-clause-bad_pack : goal.returns-clause-bad_pack
returns-clause-bad_pack g c = λ objects tree. (
  λ f. (f.ops, f.names, (f.text, f.held, f.fails)),
  λ f. record { ops = f.0; names = f.1; text = f.2.0; held = f.2.1; fails = f.2.2 },
)

pub returns-clause-bad_operation : goal.returns-clause-bad_operation
returns-clause-bad_operation g c = λ objects tree index why. (
  λ f. (f.ops, f.names, (f.text, f.held, f.fails)),
  λ f. record { ops = f.0; names = f.1; text = f.2.0; held = f.2.1; fails = f.2.2 },
)

pub returns-clause-too_large : goal.returns-clause-too_large
returns-clause-too_large g c = λ objects tree count. (
  λ f. (f.ops, f.names, (f.text, f.held, f.fails)),
  λ f. record { ops = f.0; names = f.1; text = f.2.0; held = f.2.1; fails = f.2.2 },
)
