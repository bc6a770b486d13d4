-- Nodes by position and by name.
use Rattle.std.proofs.Common.{◌≡◌, ◌≢◌, inl, inr, ◌<◌, ℕ, List, length, get_or, Contains, sym, ◌∙◌, ap, subst, arith}
use Rattle.std.specs.List.{AllPairs}
use Rattle.std.proofs.lemmas.Bool.{cases_order}
use Rattle.std.proofs.lemmas.List.{get_or-map, length-map}
use Rattle.std.proofs.lemmas.List.Elements.{Contains-get_or}
use Rattle.gb_text.specs.declared.id.Name.{Name}
use Rattle.dag_graph.specs.Nodes.{AreNodes, names_of, node_at, no_node}
use Rattle.dag_graph.specs.declared.node.Node.{Node}
use Rattle.dag_graph.proofs.ListLemmas.{get_or_any, read_at}

abbrev pub AreApart : List Node → Type 0
AreApart nodes = AllPairs (λ (one other : Name). one ≢ other) (names_of nodes)

pub length-names : (nodes : List Node) → length (names_of nodes) ≡ length nodes
length-names nodes = length-map nodes (λ (n : Node). n.name)

-- the position of a node
pub position_of : (nodes : List Node) (node : Node) → Contains nodes node → (place : ℕ) × (place < length nodes) × (node_at nodes place ≡ node)
position_of nodes node c = (c.0, c.1, get_or_any nodes c.0 no_node node c.1 ∙ c.2)

pub has_at : (nodes : List Node) (place : ℕ) → place < length nodes → Contains nodes (node_at nodes place)
has_at nodes place within = Contains-get_or nodes place no_node within

pub name_at : (nodes : List Node) (place : ℕ) (d : Name) → place < length nodes → get_or (names_of nodes) place d ≡ (node_at nodes place).name
name_at nodes place d within = get_or-map (λ (n : Node). n.name) nodes place no_node d within

-- the position of a name
pub named : (nodes : List Node) (name : Name) → Contains (names_of nodes) name → (place : ℕ) × (place < length nodes) × ((node_at nodes place).name ≡ name)
named nodes name c =
    let within : c.0 < length nodes = omega (arith, c.1, length-names nodes) in
    (c.0, within, sym (name_at nodes c.0 name within) ∙ c.2)

module _ (nodes : List Node) (apart : AreApart nodes) where
  pub names_differ : (i j : ℕ) → i < j → j < length nodes → (node_at nodes i).name ≡ (node_at nodes j).name → ⊥
  names_differ i j below within e =
      apart i j no_node.name below (omega (arith, within, length-names nodes))
      (name_at nodes i no_node.name (omega arith) ∙ e ∙ sym (name_at nodes j no_node.name within))

  pub same_place : (i j : ℕ) → i < length nodes → j < length nodes → (node_at nodes i).name ≡ (node_at nodes j).name → i ≡ j
  same_place i j in_i in_j e =
      elim (cases_order i j) [
        | inl same ↦ same
        | inr (inl below) ↦ absurd (names_differ i j below in_j e)
        | inr (inr above) ↦ absurd (names_differ j i above in_i (sym e))
      ]

  -- one name has one node
  pub same_node : (one two : Node) → Contains nodes one → Contains nodes two → one.name ≡ two.name → one ≡ two
  same_node one two c k e =
      let (i, in_i, is) = position_of nodes one c in
      let (j, in_j, other) = position_of nodes two k in
      let same : i ≡ j = same_place i j in_i in_j (ap (λ (n : Node). n.name) is ∙ e ∙ sym (ap (λ (n : Node). n.name) other)) in
      sym is ∙ ap (node_at nodes) same ∙ other

  -- what was read at the position of a name is the node with that name
  pub read_is : (place : ℕ) (read low : Node) (name : Name) → place < length nodes → read ≡ get_or nodes place read → (node_at nodes place).name ≡ name
      → Contains nodes low → low.name ≡ name → read ≡ low
  read_is place read low name within is named at same =
      let here : node_at nodes place ≡ read = read_at nodes place no_node read within is in
      sym here ∙ same_node (node_at nodes place) low (has_at nodes place within) at (named ∙ sym same)

-- the node of a parent
pub parent_node : (nodes : List Node) → AreNodes nodes → (node : Node) (name : Name) → Contains nodes node → Contains node.parents name
    → (low : Node) × Contains nodes low × (low.name ≡ name)
parent_node nodes are node name at has =
    let (place, within, is) = named nodes name (are.closed node name at has) in
    (node_at nodes place, has_at nodes place within, is)

-- a parent that was read is a node
pub read_parent : (nodes : List Node) → AreNodes nodes → (node : Node) → Contains nodes node → (parents : List Name) → parents ≡ node.parents
    → (k : ℕ) (d : Name) → k < length parents → Contains (names_of nodes) (get_or parents k d)
read_parent nodes are node at parents is k d within =
    are.closed node (get_or parents k d) at (subst (λ (l : List Name). Contains l (get_or parents k d)) is (Contains-get_or parents k d within))
