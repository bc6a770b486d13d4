-- The answers to the parts of the walk along a chain, each with what is so of the objects.
use Rattle.std.specs.Prelude.{◌≡◌, ◌≤◌, ⊤, List, [], ◌∷◌, length, Vec, Option, Some, None, Result, Ok, Err}
use Rattle.std.specs.declared.alloc.Global.{Global}
use Rattle.gb_text.specs.declared.id.Name.{Name}
use Rattle.git_object.specs.declared.commit.Commit.{Commit}
use Rattle.object_store.specs.Held.{Objects}
use Rattle.object_store.specs.Typed.{commit_at}
use Rattle.commit_walk.specs.Answers.{IsNoCommit}
use Rattle.commit_walk.specs.declared.below.TheConstants.{MOST_COMMITS}
use Rattle.commit_walk.specs.Chain.{ChainFaultHolds, IsLink, MeetsMerge, Walked}
use Rattle.commit_walk.specs.declared.chain.Link.{Link}
use Rattle.commit_walk.specs.declared.fault.ChainStop.{ChainStop}
use Rattle.commit_walk.specs.declared.fault.ChainStop.TheVariants as stop

-- a commit's parents, where it has at most one
abbrev pub parents_of : Option Name → List Name
parents_of None = []
parents_of (Some parent) = parent ∷ []

-- a name holds a commit with two parents or more
pub record IsMerge (objects : Objects) (name : Name) : Type 0 where
  pub commit : Commit
  pub held : commit_at objects name ≡ Some commit
  pub many : 2 ≤ length commit.parents

abbrev pub LinkAnswers : Objects → Name → Result (Link × Option Name) ChainStop → Type 0
LinkAnswers objects name (Ok step) = (step.0.name ≡ name) × IsLink objects step.0 (parents_of step.1)
LinkAnswers objects name (Err stop.Memory) = ⊤
LinkAnswers objects name (Err stop.Disk) = ⊤
LinkAnswers objects name (Err (stop.Merge n)) = (n ≡ name) × IsMerge objects name
LinkAnswers objects name (Err (stop.Fault f)) = IsNoCommit objects name f

-- why the walk gave no commits: a merge that it met, or a fault where it met none
abbrev pub ChainRefused : Objects → Name → ChainStop → Type 0
ChainRefused objects head stop.Memory = ⊤
ChainRefused objects head stop.Disk = ⊤
ChainRefused objects head (stop.Merge name) = MeetsMerge objects head name
ChainRefused objects head (stop.Fault f) = ((name : Name) → MeetsMerge objects head name → ⊥) × ChainFaultHolds objects head f

abbrev pub ChainAnswers : Objects → Name → Result (Vec Link Global) ChainStop → Type 0
ChainAnswers objects head (Ok walk) = Walked objects head walk.items × (length walk.items ≤ MOST_COMMITS)
ChainAnswers objects head (Err s) = ChainRefused objects head s
