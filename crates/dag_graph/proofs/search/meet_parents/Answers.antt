use Rattle.std.proofs.Common.{◌≡◌, ◌<◌, Bool, List, ℕ, true, length, set, take, sym, get_or, ◌∙◌, subst, ap, arith}
use Rattle.std.proofs.lemmas.List.{take_more}
use Rattle.gb_text.specs.declared.id.Name.{Name}
use Rattle.dag_graph.specs.Nodes.{no_node, node_at}
use Rattle.dag_graph.specs.Search.{AreFound, Follows}
use Rattle.dag_graph.specs.declared.node.Node.{Node}
use Rattle.dag_graph.proofs.ListLemmas.{get_or_any}
use Rattle.dag_graph.proofs.NodeLemmas.{has_at, read_parent}
use Rattle.dag_graph.proofs.SearchLemmas.{AreFound-more, Follows-more}
use Rattle.dag_graph.proofs.search.meet_parents.Goals as goal

pub place_of-requires-clause-has : goal.place_of-requires-clause-has
place_of-requires-clause-has c =
    let nodes = c.args.nodes.now in
    let here : get_or nodes c.args.place c.index-nodes-place.result ≡ node_at nodes c.args.place = get_or_any nodes c.args.place c.index-nodes-place.result no_node c.requires.place in
    read_parent nodes c.requires.graph.nodes_are (node_at nodes c.args.place) (has_at nodes c.args.place c.requires.place) c.as_slice-parent-items.result.now
    (c.as_slice-parent-items.ensures ∙ ap (λ (n : Node). n.parents) here) c.loop-parent.parent-index no_node.name c.loop-parent-test.true

pub loop-parent-preserved : goal.loop-parent-preserved
loop-parent-preserved c =
    let nodes = c.args.nodes.now in
    let met = c.loop-parent.met in
    let mid = take c.loop-parent.found c.loop-parent.queue in
    let new = take c.meet-found.result c.meet-found.new.queue in
    let place = c.place_of.result in
    let items = c.as_slice-parent-items.result.now in
    let parent = get_or items c.loop-parent.parent-index no_node.name in
    let inside : place < length met = omega (arith, c.place_of.ensures.within, c.loop-parent.auto.met, c.requires.met) in
    let found : AreFound (set met place true) new =
    subst (λ (l : List ℕ). AreFound (set met place true) l) (sym c.meet-found.ensures.found) (AreFound-more met mid c.loop-parent.invariant.found place inside) in
    let follows = Follows-more nodes c.requires.graph.nodes_are.once (take c.loop-parent.parent-index items) parent (take c.args.count c.args.queue.now) mid new met place
    c.loop-parent.invariant.found inside c.place_of.ensures.within c.place_of.ensures.is c.meet-found.ensures.found c.loop-parent.invariant.follows in
    record {
      count = c.meet-found.ensures.count;
      found = subst (λ (m : List Bool). AreFound m new) (sym c.meet-found.ensures.met) found;
      follows = subst (λ (l : List Name). Follows nodes l (take c.args.count c.args.queue.now) new) (sym (take_more items c.loop-parent.parent-index no_node.name c.loop-parent-test.true)) follows;
    }
