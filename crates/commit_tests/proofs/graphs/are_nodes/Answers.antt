use Rattle.std.proofs.Common.{◌≡◌, ◌<◌, inl, inr, length, Contains, List, sym, ◌∙◌, ap, subst, arith}
use Rattle.std.proofs.lemmas.Bool.{cases_lt}
use Rattle.std.proofs.lemmas.Bool.Decides.{nat_tests}
use Rattle.gb_text.specs.declared.id.Name.{Name}
use Rattle.dag_graph.specs.Index.{IsIndex}
use Rattle.dag_graph.specs.Nodes.{no_node, node_at}
use Rattle.dag_graph.specs.declared.node.Node.{Node}
use Rattle.dag_graph.proofs.ListLemmas.{read_at}
use Rattle.dag_graph.proofs.NodeLemmas.{position_of}
use Rattle.commit_tests.proofs.GraphLemmas.{nodes_of_index}
use Rattle.commit_tests.proofs.graphs.are_nodes.Goals as goal

pub loop-node-preserved : goal.loop-node-preserved
loop-node-preserved c = λ k lt name has.
    let nodes = c.args.nodes.now in
    let index = c.loop-node.node-index in
    let here : node_at nodes index ≡ c.node-item.result = read_at nodes index no_node c.node-item.result c.loop-node-test.true c.node-item.is in
    elim (cases_lt k index) [
      | inl earlier ↦ c.loop-node.invariant k earlier name has
      | inr later ↦
          let at : k ≡ index = omega (arith, lt, later) in
          let node : node_at nodes k ≡ c.node-item.result = ap (node_at nodes) at ∙ here in
          c.has_all.ensures c.if-not-has_all.false name (subst (λ (l : List Name). Contains l name) (ap (λ (n : Node). n.parents) node ∙ sym c.as_slice.ensures) has)
    ]

pub returns : goal.returns
returns c = λ yes.
    let nodes = c.args.nodes.now in
    let index : IsIndex nodes c.in-Some.places = rw c.in-Some.is at c.in_ok-places.ensures in
    let some : 0 < length nodes = grind (arith, nat_tests, yes, c.is_empty.ensures) in
    nodes_of_index nodes c.in-Some.places index some (λ node at name has.
    let (k, within, is) = position_of nodes node at in
    c.loop-node.invariant k (omega (arith, within, c.loop-node-test.false)) name (subst (λ (n : Node). Contains n.parents name) (sym is) has))
