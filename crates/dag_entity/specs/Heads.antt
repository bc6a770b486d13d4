-- What is asked of the heads of a graph.
use Rattle.std.specs.Prelude.{◌≡◌, ◌≢◌, ◌≤◌, ◌<◌, ◌+◌, ◌⊎◌, ℕ, List, [], ◌∷◌, length, Contains, Result, Ok, Err}
use Rattle.gb_text.specs.declared.decimal.TheConstants.{GREATEST_TIME}
use Rattle.gb_text.specs.declared.id.Name.{Name}
use Rattle.commit_walk.specs.declared.below.TheConstants.{MOST_COMMITS}
use Rattle.dag_graph.specs.Below.{IsAncestor}
use Rattle.dag_graph.specs.Nodes.{names_of, node_at}
use Rattle.dag_graph.specs.declared.node.Node.{Node}
use Rattle.dag_entity.specs.declared.fault.EntityFault.{EntityFault}
use Rattle.dag_entity.specs.declared.fault.EntityFault.TheVariants as fault

-- all heads are among the nodes
abbrev pub HaveHeads : List Node → List Name → Type 0
HaveHeads nodes heads = (name : Name) → Contains heads name → Contains (names_of nodes) name

-- a node of this name has this edit clock
pub record HasEdit (nodes : List Node) (name : Name) (edit : ℕ) : Type 0 where
  pub node : Node
  pub at : Contains nodes node
  pub is : node.name ≡ name
  pub says : node.edit ≡ edit

-- the greatest edit clock of a head
pub record IsGreatestIn (nodes : List Node) (heads : List Name) (edit : ℕ) : Type 0 where
  pub head : Name
  pub among : Contains heads head
  pub has : HasEdit nodes head edit
  pub most : (other : Name) (clock : ℕ) → Contains heads other → HasEdit nodes other clock → clock ≤ edit

-- neither of two names lies below the other
abbrev pub LieApart : List Node → Name → Name → Type 0
LieApart nodes one two = (IsAncestor nodes one two → ⊥) × (IsAncestor nodes two one → ⊥)

-- there are two heads, of which neither lies below the other
pub record AreApartIn (nodes : List Node) (heads : List Name) (one two : Name) : Type 0 where
  pub are : heads ≡ one ∷ two ∷ []
  pub one_apart : IsAncestor nodes one two → ⊥
  pub two_apart : IsAncestor nodes two one → ⊥

-- there is room for the merge commit that two heads need
pub record HaveRoom (nodes : List Node) (heads : List Name) : Type 0 where
  pub few : length nodes < MOST_COMMITS
  pub free : (name : Name) → Contains heads name → HasEdit nodes name GREATEST_TIME → ⊥

-- The answer to the greatest edit clock of the heads, if there is room for the merge commit that they may need.
abbrev pub HeadsAnswers : List Node → List Name → Result ℕ EntityFault → Type 0
HeadsAnswers nodes heads (Ok edit) = IsGreatestIn nodes heads edit × ((one two : Name) → AreApartIn nodes heads one two → HaveRoom nodes heads)
HeadsAnswers nodes heads (Err (fault.TooLarge count)) = (count ≡ MOST_COMMITS + 1) × (MOST_COMMITS ≤ length nodes) × ((one : Name) × (two : Name) × AreApartIn nodes heads one two)
HeadsAnswers nodes heads (Err (fault.ClockFull name)) = Contains heads name × HasEdit nodes name GREATEST_TIME × ((one : Name) × (two : Name) × AreApartIn nodes heads one two)
HeadsAnswers nodes heads (Err _) = ⊥

-- The answer to whether a merge commit can follow the nodes at two positions.
abbrev pub RoomAnswers : List Node → ℕ → ℕ → Result Unit EntityFault → Type 0
RoomAnswers nodes one two (Ok _) = (length nodes < MOST_COMMITS) × ((node_at nodes one).edit ≢ GREATEST_TIME) × ((node_at nodes two).edit ≢ GREATEST_TIME)
RoomAnswers nodes one two (Err (fault.TooLarge count)) = (count ≡ MOST_COMMITS + 1) × (MOST_COMMITS ≤ length nodes)
RoomAnswers nodes one two (Err (fault.ClockFull name)) = (length nodes < MOST_COMMITS)
    × ((((node_at nodes one).edit ≡ GREATEST_TIME) × (name ≡ (node_at nodes one).name))
    ⊎ (((node_at nodes one).edit ≢ GREATEST_TIME) × ((node_at nodes two).edit ≡ GREATEST_TIME) × (name ≡ (node_at nodes two).name)))
RoomAnswers nodes one two (Err _) = ⊥
