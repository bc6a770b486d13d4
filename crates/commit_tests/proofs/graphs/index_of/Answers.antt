use Rattle.std.proofs.Common.{◌≡◌, None, Some, cond, sym, ◌∙◌, subst, arith}
use Rattle.std.specs.BTreeMap.{get, is_at}
use Rattle.dag_graph.specs.Nodes.{no_node, node_at}
use Rattle.dag_graph.specs.Index.{name_cmp}
use Rattle.dag_graph.specs.declared.node.Node.{Node}
use Rattle.dag_graph.proofs.IndexLemmas.{IsIndex-all, IsIndexOf-more}
use Rattle.dag_graph.proofs.ListLemmas.{read_at}
use Rattle.commit_tests.proofs.GraphLemmas.{none_is}
use Rattle.commit_tests.proofs.graphs.index_of.Goals as goal

pub loop-place-preserved : goal.loop-place-preserved
loop-place-preserved c =
    let nodes = c.args.nodes.now in
    let place = c.loop-place.place in
    let here : node_at nodes place ≡ c.index-nodes-place.result = read_at nodes place no_node c.index-nodes-place.result c.loop-place-test.true c.index-nodes-place.is in
    let old : c.in_ok-insert.field-0 ≡ None = none_is c.in_ok-insert.field-0 (sym c.is_some.ensures ∙ c.if-is_some.false) in
    let fresh : get name_cmp c.loop-place.places (node_at nodes place).name ≡ None =
    subst (λ (n : Node). get name_cmp c.loop-place.places n.name ≡ None) (sym here) (sym c.in_ok-insert.ensures.old ∙ old) in
    IsIndexOf-more nodes c.loop-place.places c.insert.new.self place fresh
    (λ q. subst (λ (n : Node). get name_cmp c.insert.new.self q ≡ cond (is_at (name_cmp n.name) q) (Some place) (get name_cmp c.loop-place.places q)) (sym here) (c.in_ok-insert.ensures.updates.0 q))
    c.loop-place.invariant

pub returns : goal.returns
returns c = IsIndex-all c.args.nodes.now c.loop-place.places c.loop-place.place (omega (arith, c.loop-place-test.false, c.loop-place.auto.place-end)) c.loop-place.invariant
