use Rattle.std.proofs.Common.{◌≡◌, ◌<◌, ◌≤◌, ◌+◌, ℕ, [], length, sym, ◌∙◌, ap, subst, inl, inr, arith}
use Rattle.std.proofs.lemmas.Bool.{cases_lt}
use Rattle.std.proofs.lemmas.Bool.Decides.{nat_tests}
use Rattle.dag_graph.specs.Faults.{IsGood, IsSecondRoot}
use Rattle.dag_graph.specs.Nodes.{no_node, node_at}
use Rattle.dag_graph.specs.declared.node.Node.{Node}
use Rattle.dag_graph.proofs.CheckLemmas.{second_root, none_holds, root_is}
use Rattle.dag_graph.proofs.ListLemmas.{no_element, read_at}
use Rattle.dag_graph.proofs.check.check_graph.Goals as goal
use Rattle.dag_graph.proofs.check.check_graph.Goals.{else-place-least-via-then-place-least+else-is_empty, else-place-least-via-else-place-least}

pub returns-then-is_empty : goal.returns-then-is_empty
returns-then-is_empty c =
    let nodes = c.args.nodes.now in
    let place = c.loop-place.place in
    let least = c.least_of-least.result in
    let node = c.index-nodes-place.result in
    let here : node_at nodes place ≡ node = read_at nodes place no_node node c.loop-place-test.true c.index-nodes-place.is in
    let first : node_at nodes least ≡ c.index-nodes-least.result = read_at nodes least no_node c.index-nodes-least.result c.least_of-least.ensures.within c.index-nodes-least.is in
    let empty : length c.as_slice.result.now ≡ 0 = grind (arith, nat_tests, c.if-is_empty.true, c.is_empty.ensures) in
    let root : node.parents ≡ [] = sym c.as_slice.ensures ∙ no_element c.as_slice.result.now empty in
    subst (λ (n : Node). IsSecondRoot nodes n.name) here
    (second_root nodes c.requires.nodes_are least c.least_of-least.ensures.within c.least_of-least.ensures.least (subst (IsGood nodes) (sym first) c.in_ok-check_node.ensures)
    place c.loop-place-test.true c.if-place-least.true (ap (λ (n : Node). n.parents) here ∙ root))

pub loop-place-preserved : goal.loop-place-preserved
loop-place-preserved c =
    let nodes = c.args.nodes.now in
    let place = c.loop-place.place in
    let least = c.least_of-least.result in
    let node = c.index-nodes-place.result in
    let here : node_at nodes place ≡ node = read_at nodes place no_node node c.loop-place-test.true c.index-nodes-place.is in
    let root : (place ≡ least → ⊥) → node.parents ≡ [] → ⊥ = λ other none.
    elim c.else-place-least.branch [
      | else-place-least-via-then-place-least+else-is_empty w ↦
          let empty : length w.as_slice.result.now ≡ 0 = ap length (w.as_slice.ensures ∙ none) in
          grind (arith, nat_tests, w.if-is_empty.false, w.is_empty.ensures, empty)
      | else-place-least-via-else-place-least w ↦ other w.if-place-least.false
    ] in
    let at : (k : ℕ) → k < place + 1 → place ≤ k → k ≡ place = λ k lt ge. omega (arith, lt, ge) in
    record {
      good = λ k lt. elim (cases_lt k place) [
        | inl before ↦ c.loop-place.invariant.good k before
        | inr ge ↦ subst (IsGood nodes) (sym (ap (node_at nodes) (at k lt ge) ∙ here)) c.in_ok-check_node-2.ensures
      ];
      no_root = λ k lt other none. elim (cases_lt k place) [
        | inl before ↦ c.loop-place.invariant.no_root k before other none
        | inr ge ↦ root (λ e. other (at k lt ge ∙ e)) (ap (λ (n : Node). n.parents) (sym (ap (node_at nodes) (at k lt ge) ∙ here)) ∙ none)
      ];
    }

pub returns : goal.returns
returns c =
    let nodes = c.args.nodes.now in
    let least = c.least_of-least.result in
    let first : node_at nodes least ≡ c.index-nodes-least.result = read_at nodes least no_node c.index-nodes-least.result c.least_of-least.ensures.within c.index-nodes-least.is in
    let good_least : IsGood nodes (node_at nodes least) = subst (IsGood nodes) (sym first) c.in_ok-check_node.ensures in
    let good : (k : ℕ) → k < length nodes → IsGood nodes (node_at nodes k) = λ k within. c.loop-place.invariant.good k (omega (arith, c.loop-place-test.false, within)) in
    let no_root : (k : ℕ) → k < length nodes → (k ≡ least → ⊥) → (node_at nodes k).parents ≡ [] → ⊥ = λ k within. c.loop-place.invariant.no_root k (omega (arith, c.loop-place-test.false, within)) in (
      none_holds nodes c.requires.nodes_are least c.least_of-least.ensures.within c.least_of-least.ensures.least good_least good no_root,
      root_is nodes c.requires.nodes_are least c.least_of-least.ensures.within c.least_of-least.ensures.least good_least good no_root,
    )
