-- The index of nodes by name.
use Rattle.std.specs.Prelude.{◌≡◌, ◌<◌, ℕ, List, length, Some}
use Rattle.std.specs.BTreeMap.{BTreeMap, get}
use Rattle.std.specs.Ordering.{nat_cmp, on}
use Rattle.std.specs.Cmp.Lexicographic.{slice_cmp}
use Rattle.std.specs.declared.cmp.Ordering.{Ordering}
use Rattle.gb_text.specs.declared.id.Name.{Name}
use Rattle.dag_graph.specs.Nodes.{AreNodes, node_at}
use Rattle.dag_graph.specs.declared.node.Node.{Node}

-- names are in byte order
abbrev pub name_cmp : Name → Name → Ordering
name_cmp = on (λ (name : Name). name.bytes) (slice_cmp nat_cmp)

-- the index has the position of each node under its name, and nothing else
pub record IsIndex (nodes : List Node) (places : BTreeMap Name ℕ) : Type 0 where
  pub found : (name : Name) (place : ℕ) → get name_cmp places name ≡ Some place → (place < length nodes) × ((node_at nodes place).name ≡ name)
  pub all : (place : ℕ) → place < length nodes → get name_cmp places (node_at nodes place).name ≡ Some place

-- the nodes of a graph, with their index
pub record IsGraph (nodes : List Node) (places : BTreeMap Name ℕ) : Type 0 where
  pub nodes_are : AreNodes nodes
  pub index : IsIndex nodes places
