-- What lies below some names, in the data model of git-bug: the names, and all that parents lead to.
use Rattle.std.specs.Prelude.{◌≡◌, ◌++◌, ℕ, zero, suc, List, [], ◌∷◌, flat_map, Contains, if◌then◌else◌}
use Rattle.std.specs.Str.{bytes_eq}
use Rattle.gb_text.specs.declared.id.Name.{Name}
use Rattle.dag_graph.specs.declared.node.Node.{Node}

-- a node with the one name has the other name among its parents
pub record IsParent (nodes : List Node) (high low : Name) : Type 0 where
  pub node : Node
  pub at : Contains nodes node
  pub is : node.name ≡ high
  pub names : Contains node.parents low

-- the heads are below, and a parent of what is below is below; a name that no node has leads nowhere
pub data IsBelow (nodes : List Node) (heads : List Name) : Name → Type 0 where
  head : {name : Name} → Contains heads name → IsBelow nodes heads name
  parent : {high low : Name} → IsBelow nodes heads high → IsParent nodes high low → IsBelow nodes heads low

-- low is high, or parents lead from high to it
abbrev pub IsAncestor : List Node → Name → Name → Type 0
IsAncestor nodes low high = IsBelow nodes (high ∷ []) low

-- a parent of the node with this name leads back to it
pub record IsRing (nodes : List Node) (name : Name) : Type 0 where
  pub next : Name
  pub leads : IsParent nodes name next
  pub back : IsAncestor nodes name next

-- the parents of the nodes with a name
abbrev pub parents_of : List Node → Name → List Name
parents_of nodes name = flat_map (λ (node : Node). if bytes_eq node.name.bytes name.bytes then node.parents else []) nodes

-- the heads, with the parents of all that is there added so many times
abbrev pub added : List Node → List Name → ℕ → List Name
added nodes heads zero = heads
added nodes heads (suc times) = added nodes heads times ++ flat_map (parents_of nodes) (added nodes heads times)
