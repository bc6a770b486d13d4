use Rattle.std.proofs.Common.{Contains, subst, sym, arith}
use Rattle.gb_text.specs.declared.id.Name.{Name}
use Rattle.dag_graph.proofs.laws.graph_faults_have_causes.Goals as goal

pub returns-clause-root : goal.returns-clause-root
returns-clause-root c = λ nodes name same second. second.differ (same second.one second.two second.at_one second.at_two second.root_one second.root_two)

pub returns-clause-order : goal.returns-clause-order
returns-clause-order c = λ nodes high low rise order.
    let rises = rise order.one order.two order.at_one order.at_two (subst (λ (name : Name). Contains order.one.parents name) (sym order.low_is) order.names) in
    omega (arith, rises, order.falls)

pub returns-clause-merge : goal.returns-clause-merge
returns-clause-merge c = λ nodes name empty merge.
    let none = empty merge.one merge.at merge.many in
    omega (arith, none, merge.some)

pub returns-clause-root_named : goal.returns-clause-root_named
returns-clause-root_named c = λ nodes name root. (root.one, root.at_one, root.is, root.root_one)

pub returns-clause-order_named : goal.returns-clause-order_named
returns-clause-order_named c = λ nodes high low order. (order.one, order.at_one, order.high_is, order.names)

pub returns-clause-jump_named : goal.returns-clause-jump_named
returns-clause-jump_named c = λ nodes high low jump. (jump.one, jump.at_one, jump.high_is, jump.single)

pub returns-clause-merge_named : goal.returns-clause-merge_named
returns-clause-merge_named c = λ nodes name merge. (merge.one, merge.at, merge.is, merge.many, merge.some)
