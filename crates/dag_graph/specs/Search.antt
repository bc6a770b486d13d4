-- The search for all that lies below a node: the positions that were found, in their order, and a mark on each.
use Rattle.std.specs.Prelude.{◌≡◌, ◌≢◌, ◌<◌, ◌↔◌, ◌⊎◌, ◌++◌, ℕ, Bool, true, false, List, [], ◌∷◌, length, slice_index_or, Contains, if◌then◌else◌}
use Rattle.std.specs.List.{AllPairs}
use Rattle.gb_text.specs.declared.id.Name.{Name}
use Rattle.dag_graph.specs.Below.{IsAncestor}
use Rattle.dag_graph.specs.Nodes.{node_at}
use Rattle.dag_graph.specs.declared.node.Node.{Node}

abbrev pub is_met : List Bool → ℕ → Bool
is_met met place = slice_index_or met place false

-- exactly the marked positions were found, each once
pub record AreFound (met : List Bool) (found : List ℕ) : Type 0 where
  pub inside : (place : ℕ) → Contains found place → place < length met
  pub once : AllPairs (λ (one other : ℕ). one ≢ other) found
  pub marked : (place : ℕ) → Contains found place → is_met met place ≡ true
  pub only : (place : ℕ) → is_met met place ≡ true → Contains found place

-- what was found, with a position behind it if that has no mark yet
abbrev pub found_with : List Bool → List ℕ → ℕ → List ℕ
found_with met found place = if is_met met place then found else found ++ place ∷ []

-- what was found goes on with the positions of these names
pub record Follows (nodes : List Node) (names : List Name) (old new : List ℕ) : Type 0 where
  pub rest : List ℕ
  pub kept : new ≡ old ++ rest
  pub has : (place : ℕ) → place < length nodes → Contains names (node_at nodes place).name → Contains new place
  pub only : (place : ℕ) → Contains new place → Contains old place ⊎ Contains names (node_at nodes place).name

-- exactly the positions of what is below the node are marked
abbrev pub AreBelow : List Node → ℕ → List Bool → Type 0
AreBelow nodes high met = (place : ℕ) → place < length nodes
    → is_met met place ≡ true ↔ IsAncestor nodes (node_at nodes place).name (node_at nodes high).name
