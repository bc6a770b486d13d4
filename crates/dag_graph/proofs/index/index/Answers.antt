use Rattle.std.proofs.Common.{◌≡◌, sym, arith, cond, Some, subst}
use Rattle.std.specs.BTreeMap.{get, is_at}
use Rattle.dag_graph.specs.Index.{name_cmp}
use Rattle.dag_graph.specs.Nodes.{no_node, node_at}
use Rattle.dag_graph.specs.declared.node.Node.{Node}
use Rattle.dag_graph.proofs.IndexLemmas.{IsIndex-all, IsIndexOf-more, not_yet}
use Rattle.dag_graph.proofs.ListLemmas.{read_at}
use Rattle.dag_graph.proofs.index.index.Goals as goal

pub loop-place-preserved : goal.loop-place-preserved
loop-place-preserved c =
    let nodes = c.args.nodes.now in
    let place = c.loop-place.place in
    let here : node_at nodes place ≡ c.index-nodes-place.result = read_at nodes place no_node c.index-nodes-place.result c.loop-place-test.true c.index-nodes-place.is in
    IsIndexOf-more nodes c.loop-place.places c.insert.new.self place (not_yet nodes c.requires c.loop-place.places place c.loop-place-test.true c.loop-place.invariant)
    (λ q. subst (λ (n : Node). get name_cmp c.insert.new.self q ≡ cond (is_at (name_cmp n.name) q) (Some place) (get name_cmp c.loop-place.places q)) (sym here) (c.in_ok-insert.ensures.updates.0 q))
    c.loop-place.invariant

pub returns : goal.returns
returns c = IsIndex-all c.args.nodes.now c.loop-place.places c.loop-place.place (omega (arith, c.loop-place-test.false, c.loop-place.auto.place-end)) c.loop-place.invariant
