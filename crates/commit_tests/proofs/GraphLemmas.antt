-- That some nodes are those of a graph, from an index of them.
use Rattle.std.proofs.Common.{◌≡◌, ◌<◌, ℕ, false, List, length, Contains, Some, None, Option, refl, sym, ◌∙◌, subst, arith}
use Rattle.std.specs.BTreeMap.{BTreeMap, get}
use Rattle.std.specs.Option.{IsSome, is_some}
use Rattle.std.proofs.lemmas.Option.{same_Some}
use Rattle.gb_text.specs.declared.id.Name.{Name}
use Rattle.dag_graph.specs.Index.{IsIndex, name_cmp}
use Rattle.dag_graph.specs.Nodes.{AreNodes, names_of, node_at}
use Rattle.dag_graph.specs.declared.node.Node.{Node}
use Rattle.dag_graph.proofs.ListLemmas.{Contains-map}
use Rattle.dag_graph.proofs.NodeLemmas.{AreApart, has_at, length-names, name_at}

is_some_of : (o : Option ℕ) → IsSome o → (place : ℕ) × (o ≡ Some place)
is_some_of None s = cc s
is_some_of (Some place) s = (place, refl)

module _ (nodes : List Node) (places : BTreeMap Name ℕ) (index : IsIndex nodes places) where
  apart : AreApart nodes
  apart i j d below within e =
      let in_j : j < length nodes = omega (arith, within, length-names nodes) in
      let in_i : i < length nodes = omega (arith, below, in_j) in
      let named = sym (name_at nodes i d in_i) ∙ e ∙ name_at nodes j d in_j in
      let same : i ≡ j = same_Some i j (sym (index.all i in_i) ∙ subst (λ (n : Name). get name_cmp places n ≡ Some j) (sym named) (index.all j in_j)) in
      omega (arith, below, same)

  pub nodes_of_index : 0 < length nodes → ((node : Node) → Contains nodes node → (name : Name) → Contains node.parents name → IsSome (get name_cmp places name)) → AreNodes nodes
  nodes_of_index some closed = record {
    some = some;
    once = apart;
    closed = λ node name at has.
        let (place, is) = is_some_of (get name_cmp places name) (closed node at name has) in
        let (within, named) = index.found name place is in
        subst (Contains (names_of nodes)) named (Contains-map (λ (n : Node). n.name) nodes (node_at nodes place) (has_at nodes place within));
  }

pub none_is : (o : Option ℕ) → is_some o ≡ false → o ≡ None
none_is None f = refl
none_is (Some place) f = cc f
