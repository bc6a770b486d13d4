-- The answer to the walk from a head to a known name.
use Rattle.std.specs.Prelude.{◌≤◌, ⊤, List, [], ◌∷◌, map, length, Contains, Result, Ok, Err}
use Rattle.gb_text.specs.declared.id.Name.{Name}
use Rattle.object_store.specs.Held.{Objects}
use Rattle.commit_walk.specs.Below.{AreBelow, FaultHolds, IsCommit, names_of}
use Rattle.commit_walk.specs.Chain.{Chain}
use Rattle.commit_walk.specs.Distinct.{AreDistinct}
use Rattle.commit_walk.specs.declared.above.Above.{Above}
use Rattle.commit_walk.specs.declared.above.Above.TheVariants as above
use Rattle.commit_walk.specs.declared.below.Met.{Met}
use Rattle.commit_walk.specs.declared.chain.Link.{Link}
use Rattle.commit_walk.specs.declared.fault.WalkStop.{WalkStop}
use Rattle.commit_walk.specs.declared.fault.WalkStop.TheVariants as stop

-- the commit as one of a chain
abbrev pub link_of : Met → Link
link_of met = record { name = met.name; tree = met.tree }

-- steps by the single parent lead from the head through these commits, each once, to the known name; the lowest of them stands first
pub record IsChainAbove (objects : Objects) (head known : Name) (chain : List Met) : Type 0 where
  pub leads : Chain objects head (map link_of chain) known
  pub each : (met : Met) → Contains chain met → IsCommit objects met
  pub once : AreDistinct (names_of chain)
  pub fewest : (others : List Link) → Chain objects head others known → length chain ≤ length others

-- no steps by the single parent lead from the head to the known name
abbrev pub LeavesOut : Objects → Name → Name → Type 0
LeavesOut objects head known = (above : List Link) → Chain objects head above known → ⊥

-- These are the commits above the known name; or no steps lead there and these are all below the head; or something is wrong with those.
abbrev pub AboveAnswers : Objects → Name → Name → Result Above WalkStop → Type 0
AboveAnswers objects head known (Ok (above.Chain chain)) = IsChainAbove objects head known chain.items
AboveAnswers objects head known (Ok (above.Whole walk)) = AreBelow objects (head ∷ []) walk.items × LeavesOut objects head known
AboveAnswers objects head known (Err (stop.Fault f)) = FaultHolds objects (head ∷ []) f
AboveAnswers objects head known (Err stop.Memory) = ⊤
AboveAnswers objects head known (Err stop.Disk) = ⊤

-- a fact of the commits that were met
abbrev pub IfMet : Result Above WalkStop → (List Met → Type 0) → Type 0
IfMet (Ok (above.Chain chain)) P = P chain.items
IfMet (Ok (above.Whole walk)) P = P walk.items
IfMet (Err _) P = ⊤

-- a fact of all commits below the head, where they were met
abbrev pub IfWhole : Result Above WalkStop → (List Met → Type 0) → Type 0
IfWhole (Ok (above.Chain chain)) P = ⊤
IfWhole (Ok (above.Whole walk)) P = P walk.items
IfWhole (Err _) P = ⊤
