-- The commits of a graph as a list, each at its position.
use Rattle.std.specs.Prelude.{◌≢◌, ◌<◌, ℕ, List, [], map, length, slice_index_or, Contains}
use Rattle.std.specs.List.{AllPairs}
use Rattle.gb_text.specs.declared.id.Name.{Name}
use Rattle.dag_graph.specs.declared.node.Node.{Node}

abbrev pub names_of : List Node → List Name
names_of nodes = map (λ (node : Node). node.name) nodes

-- what stands past the end: a node without a name
abbrev pub no_node : Node
no_node = record { name = record { bytes = [] }; parents = []; edit = 0; count = 0 }

abbrev pub node_at : List Node → ℕ → Node
node_at nodes place = slice_index_or nodes place no_node

-- the nodes of a graph: there is one, their names are distinct, and each parent is a node
pub record AreNodes (nodes : List Node) : Type 0 where
  pub some : 0 < length nodes
  pub once : AllPairs (λ (one other : Name). one ≢ other) (names_of nodes)
  pub closed : (node : Node) (name : Name) → Contains nodes node → Contains node.parents name → Contains (names_of nodes) name
