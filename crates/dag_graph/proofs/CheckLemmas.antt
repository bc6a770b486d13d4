-- What may be wrong with a graph, node by node.
use Rattle.std.proofs.Common.{◌≡◌, inl, inr, ◌<◌, ◌≤◌, ℕ, List, [], ◌∷◌, length, Contains, refl, sym, ◌∙◌, ap, subst, arith}
use Rattle.std.proofs.lemmas.Bool.{cases_eq}
use Rattle.gb_text.specs.declared.id.Name.{Name}
use Rattle.dag_graph.specs.Faults.{IsFaultless, IsGood, IsRoot, IsSecondRoot}
use Rattle.dag_graph.specs.Nodes.{AreNodes, node_at}
use Rattle.dag_graph.specs.declared.node.Node.{Node}
use Rattle.dag_graph.specs.declared.fault.GraphFault.TheVariants as fault
use Rattle.dag_graph.proofs.ListLemmas.{Contains-first}
use Rattle.dag_graph.proofs.NodeLemmas.{position_of, has_at, same_place, parent_node}

module _ (nodes : List Node) (are : AreNodes nodes) (least : ℕ) (within : least < length nodes)
    (low : (node : Node) → Contains nodes node → (node_at nodes least).edit ≤ node.edit) (good_least : IsGood nodes (node_at nodes least)) where
  -- the node with the least clock has no parent, where its clock rises
  pub least_is_root : (node_at nodes least).parents ≡ []
  least_is_root = none (node_at nodes least).parents refl
    where
      none : (ps : List Name) → (node_at nodes least).parents ≡ ps → (node_at nodes least).parents ≡ []
      none [] e = e
      none (p ∷ ps) e =
          let has : Contains (node_at nodes least).parents p = subst (λ (l : List Name). Contains l p) (sym e) (Contains-first p ps) in
          let (parent, at, is) = parent_node nodes are (node_at nodes least) p (has_at nodes least within) has in
          let above = low parent at in
          let below = good_least.rises parent at (subst (λ (n : Name). Contains (node_at nodes least).parents n) (sym is) has) in
          absurd (omega (arith, above, below))

  -- so another node without parents is a second root
  pub second_root : (place : ℕ) → place < length nodes → (place ≡ least → ⊥) → (node_at nodes place).parents ≡ [] → IsSecondRoot nodes (node_at nodes place).name
  second_root place inside other root = record {
    one = node_at nodes place;
    two = node_at nodes least;
    at_one = has_at nodes place inside;
    at_two = has_at nodes least within;
    is = refl;
    differ = λ e. other (same_place nodes are.once place least inside within e);
    root_one = root;
    root_two = least_is_root;
  }

  module _ (good : (k : ℕ) → k < length nodes → IsGood nodes (node_at nodes k))
      (no_root : (k : ℕ) → k < length nodes → (k ≡ least → ⊥) → (node_at nodes k).parents ≡ [] → ⊥) where
    good_node : (node : Node) → Contains nodes node → IsGood nodes node
    good_node node c = let (k, inside, is) = position_of nodes node c in subst (IsGood nodes) is (good k inside)

    only : (k : ℕ) → k < length nodes → (node_at nodes k).parents ≡ [] → k ≡ least
    only k inside root =
        elim (cases_eq k least) [
          | inl e ↦ e
          | inr differ ↦ absurd (no_root k inside differ root)
        ]

    pub root_is : IsRoot nodes least
    root_is = record { within = within; root = least_is_root; only = only }

    root_node : (node : Node) → Contains nodes node → node.parents ≡ [] → node_at nodes least ≡ node
    root_node node c root =
        let (k, inside, is) = position_of nodes node c in
        ap (node_at nodes) (sym (only k inside (ap (λ (n : Node). n.parents) is ∙ root))) ∙ is

    pub none_holds : IsFaultless nodes
    none_holds (fault.SecondRoot name) h =
        h.differ (ap (λ (n : Node). n.name) (sym (root_node h.one h.at_one h.root_one) ∙ root_node h.two h.at_two h.root_two))
    none_holds (fault.ClockOrder high low) h =
        let rises = (good_node h.one h.at_one).rises h.two h.at_two (subst (λ (n : Name). Contains h.one.parents n) (sym h.low_is) h.names) in
        omega (arith, rises, h.falls)
    none_holds (fault.ClockJump high low) h =
        let near = (good_node h.one h.at_one).near h.two h.at_two (h.single ∙ ap (λ (n : Name). n ∷ []) (sym h.low_is)) in
        omega (arith, near, h.jumps)
    none_holds (fault.MergeHasOperations name) h =
        let none = (good_node h.one h.at).merge h.many in
        omega (arith, none, h.some)
