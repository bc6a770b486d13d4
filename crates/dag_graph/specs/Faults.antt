-- What may be wrong with the roots, the clocks and the merges of a graph of commits.
use Rattle.std.specs.Prelude.{◌≡◌, ◌≢◌, ◌<◌, ◌≤◌, ◌+◌, ℕ, List, [], ◌∷◌, length, Contains, Result, Ok, Err}
use Rattle.gb_text.specs.declared.id.Name.{Name}
use Rattle.lamport.specs.declared.clock.TheConstants.{JUMP}
use Rattle.dag_graph.specs.Nodes.{node_at}
use Rattle.dag_graph.specs.declared.node.Node.{Node}
use Rattle.dag_graph.specs.declared.fault.GraphFault.{GraphFault}
use Rattle.dag_graph.specs.declared.fault.GraphFault.TheVariants as fault

-- a commit without parents beside another one
pub record IsSecondRoot (nodes : List Node) (name : Name) : Type 0 where
  pub one : Node
  pub two : Node
  pub at_one : Contains nodes one
  pub at_two : Contains nodes two
  pub is : one.name ≡ name
  pub differ : one.name ≢ two.name
  pub root_one : one.parents ≡ []
  pub root_two : two.parents ≡ []

-- a commit whose edit clock is not greater than that of a parent
pub record HasClockOrder (nodes : List Node) (high low : Name) : Type 0 where
  pub one : Node
  pub two : Node
  pub at_one : Contains nodes one
  pub at_two : Contains nodes two
  pub high_is : one.name ≡ high
  pub low_is : two.name ≡ low
  pub names : Contains one.parents low
  pub falls : one.edit ≤ two.edit

-- a commit with a single parent, and an edit clock that is further above it than an edit's may be
pub record HasClockJump (nodes : List Node) (high low : Name) : Type 0 where
  pub one : Node
  pub two : Node
  pub at_one : Contains nodes one
  pub at_two : Contains nodes two
  pub high_is : one.name ≡ high
  pub low_is : two.name ≡ low
  pub single : one.parents ≡ low ∷ []
  pub jumps : two.edit + JUMP < one.edit

-- a commit with two parents or more, and operations
pub record IsMergeWithOperations (nodes : List Node) (name : Name) : Type 0 where
  pub one : Node
  pub at : Contains nodes one
  pub is : one.name ≡ name
  pub many : 2 ≤ length one.parents
  pub some : 0 < one.count

-- what is wrong with a graph, one case a fault and with no order among them
abbrev pub GraphFaultHolds : List Node → GraphFault → Type 0
GraphFaultHolds nodes (fault.SecondRoot name) = IsSecondRoot nodes name
GraphFaultHolds nodes (fault.ClockOrder high low) = HasClockOrder nodes high low
GraphFaultHolds nodes (fault.ClockJump high low) = HasClockJump nodes high low
GraphFaultHolds nodes (fault.MergeHasOperations name) = IsMergeWithOperations nodes name

abbrev pub IsFaultless : List Node → Type 0
IsFaultless nodes = (f : GraphFault) → GraphFaultHolds nodes f → ⊥

abbrev pub ClocksRise : List Node → Type 0
ClocksRise nodes = (high low : Name) → HasClockOrder nodes high low → ⊥

-- the position of the one commit without parents
pub record IsRoot (nodes : List Node) (place : ℕ) : Type 0 where
  pub within : place < length nodes
  pub root : (node_at nodes place).parents ≡ []
  pub only : (other : ℕ) → other < length nodes → (node_at nodes other).parents ≡ [] → other ≡ place

-- Ok where no fault holds, with the root, and else a fault that holds
abbrev pub CheckAnswers : List Node → Result ℕ GraphFault → Type 0
CheckAnswers nodes (Ok root) = IsFaultless nodes × IsRoot nodes root
CheckAnswers nodes (Err f) = GraphFaultHolds nodes f

-- the parents of a commit allow its clock, and its operations
pub record IsGood (nodes : List Node) (node : Node) : Type 0 where
  pub rises : (low : Node) → Contains nodes low → Contains node.parents low.name → low.edit < node.edit
  pub near : (low : Node) → Contains nodes low → node.parents ≡ low.name ∷ [] → node.edit ≤ low.edit + JUMP
  pub merge : 2 ≤ length node.parents → node.count ≡ 0

abbrev pub NodeAnswers : List Node → Node → Result (Unit {0}) GraphFault → Type 0
NodeAnswers nodes node (Ok _) = IsGood nodes node
NodeAnswers nodes node (Err f) = GraphFaultHolds nodes f
