use Rattle.std.proofs.Common.{◌≡◌, ◌∷◌, [], List, length, take, get_or, Contains, ⊎_elim, sym, ◌∙◌, ap, subst, arith}
use Rattle.std.proofs.lemmas.List.{take_more, take_all}
use Rattle.std.proofs.lemmas.List.Elements.{Contains-push_cases}
use Rattle.gb_text.specs.declared.id.Name.{Name}
use Rattle.dag_graph.specs.Nodes.{no_node}
use Rattle.dag_graph.specs.declared.node.Node.{Node}
use Rattle.dag_graph.proofs.ListLemmas.{one_element}
use Rattle.dag_graph.proofs.NodeLemmas.{read_is, read_parent}
use Rattle.dag_graph.proofs.check.check_node.Goals as goal

pub place_of-requires-clause-has : goal.place_of-requires-clause-has
place_of-requires-clause-has c =
    read_parent c.args.nodes.now c.requires.graph.nodes_are c.args.node.now c.requires.has c.as_slice-parents.result.now c.as_slice-parents.ensures
    c.loop-parent.parent-index no_node.name c.loop-parent-test.true

pub loop-parent-preserved : goal.loop-parent-preserved
loop-parent-preserved c = λ low at has.
    let parents = c.as_slice-parents.result.now in
    let index = c.loop-parent.parent-index in
    let parent = get_or parents index no_node.name in
    ⊎_elim
    (λ (h : Contains (take index parents) low.name). c.loop-parent.invariant low at h)
    (λ (e : parent ≡ low.name).
    let same = read_is c.args.nodes.now c.requires.graph.nodes_are.once c.place_of.result c.index-nodes-place_of.result low parent c.place_of.ensures.within c.index-nodes-place_of.is c.place_of.ensures.is at (sym e) in
    omega (arith, c.if-nodes-place_of.false, ap (λ (n : Node). n.edit) same, ap (λ (n : Node). n.edit) c.index-nodes-place_of.is))
    (Contains-push_cases (take index parents) parent low.name (subst (λ (l : List Name). Contains l low.name) (take_more parents index no_node.name c.loop-parent-test.true) has))

pub place_of-requires-in-len1-clause-has : goal.place_of-requires-in-len1-clause-has
place_of-requires-in-len1-clause-has c =
    read_parent c.args.nodes.now c.requires.graph.nodes_are c.args.node.now c.requires.has c.as_slice-parents.result.now c.as_slice-parents.ensures
    0 no_node.name (omega (arith, c.in-len1.len_at_least))

pub returns-else-saturating_sub-gt-JUMP : goal.returns-else-saturating_sub-gt-JUMP
returns-else-saturating_sub-gt-JUMP c =
    let d = no_node.name in
    let parents = c.as_slice-parents.result.now in
    let all : take c.loop-parent.parent-index parents ≡ c.args.node.now.parents = take_all c.loop-parent.parent-index parents c.loop-parent-test.false ∙ c.as_slice-parents.ensures in
    let single : c.args.node.now.parents ≡ get_or parents 0 d ∷ [] = sym c.as_slice-parents.ensures ∙ one_element parents d (omega (arith, c.in-len1.len_at_least, c.in-len1.len_below)) in
    record {
      rises = λ low at has. c.loop-parent.invariant low at (subst (λ (l : List Name). Contains l low.name) (sym all) has);
      near = λ low at is.
          let parent : get_or parents 0 d ≡ low.name = ap (λ (l : List Name). get_or l 0 d) (sym single ∙ is) in
          let same = read_is c.args.nodes.now c.requires.graph.nodes_are.once c.place_of-in-len1.result c.index-nodes-place_of-in-len1.result low (get_or parents 0 d) c.place_of-in-len1.ensures.within c.index-nodes-place_of-in-len1.is c.place_of-in-len1.ensures.is at (sym parent) in
          omega (arith, c.saturating_sub.ensures, c.if-saturating_sub-gt-JUMP.false, ap (λ (n : Node). n.edit) same, ap (λ (n : Node). n.edit) c.index-nodes-place_of-in-len1.is);
      merge = λ many. absurd (omega (arith, many, ap length single));
    }

pub returns-else-node-gt0 : goal.returns-else-node-gt0
returns-else-node-gt0 c =
    let parents = c.as_slice-parents.result.now in
    let all : take c.loop-parent.parent-index parents ≡ c.args.node.now.parents = take_all c.loop-parent.parent-index parents c.loop-parent-test.false ∙ c.as_slice-parents.ensures in
    record {
      rises = λ low at has. c.loop-parent.invariant low at (subst (λ (l : List Name). Contains l low.name) (sym all) has);
      near = λ low at is. absurd (omega (arith, ap length is, ap length c.as_slice-parents.ensures, c.in_default.len_at_least));
      merge = λ many. omega (arith, c.if-node-gt0.false);
    }
