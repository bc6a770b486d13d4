-- The answers to the parts of the walk, each with what is so of the objects.
use Rattle.std.specs.Prelude.{◌≤◌, ◌+◌, ⊤, ℕ, List, length, Contains, Vec, Result, Ok, Err}
use Rattle.std.specs.declared.alloc.Global.{Global}
use Rattle.gb_text.specs.declared.id.Name.{Name}
use Rattle.object_store.specs.Held.{Objects}
use Rattle.object_store.specs.Typed.{CannotReadAs, as_commit}
use Rattle.object_store.specs.declared.fault.KindFault.TheVariants as kind
use Rattle.commit_walk.specs.Below.{IsBelow, IsCommit, AreBelow, FaultHolds}
use Rattle.commit_walk.specs.Distinct.{AreDistinct}
use Rattle.commit_walk.specs.declared.below.TheConstants.{MOST_COMMITS}
use Rattle.commit_walk.specs.declared.below.Met.{Met}
use Rattle.commit_walk.specs.declared.fault.WalkFault.{WalkFault}
use Rattle.commit_walk.specs.declared.fault.WalkFault.TheVariants as fault
use Rattle.commit_walk.specs.declared.fault.WalkStop.{WalkStop}
use Rattle.commit_walk.specs.declared.fault.WalkStop.TheVariants as stop

-- a fault that keeps a name from being a commit
abbrev pub IsNoCommit : Objects → Name → WalkFault → Type 0
IsNoCommit objects name (fault.Missing n) = CannotReadAs as_commit objects name (kind.Missing n)
IsNoCommit objects name (fault.Damaged n) = CannotReadAs as_commit objects name (kind.Damaged n)
IsNoCommit objects name (fault.Large n) = CannotReadAs as_commit objects name (kind.Large n)
IsNoCommit objects name (fault.NotCommit n) = CannotReadAs as_commit objects name (kind.OtherKind n)
IsNoCommit objects name fault.TooMany = ⊥

-- why no commit was had under a name; want of memory and faults of the disk have no cause there
abbrev pub CommitRefused : Objects → Name → WalkStop → Type 0
CommitRefused objects name stop.Memory = ⊤
CommitRefused objects name stop.Disk = ⊤
CommitRefused objects name (stop.Fault f) = IsNoCommit objects name f

abbrev pub StepAnswers : Objects → Name → Result Met WalkStop → Type 0
StepAnswers objects name (Ok met) = IsCommit objects met
StepAnswers objects name (Err s) = CommitRefused objects name s

-- why the walk gave no commits
abbrev pub WalkRefused : Objects → List Name → WalkStop → Type 0
WalkRefused objects heads stop.Memory = ⊤
WalkRefused objects heads stop.Disk = ⊤
WalkRefused objects heads (stop.Fault f) = FaultHolds objects heads f

abbrev pub WalkAnswers : Objects → List Name → Result (Vec Met Global) WalkStop → Type 0
WalkAnswers objects heads (Ok walk) = AreBelow objects heads walk.items × (length walk.items ≤ MOST_COMMITS)
WalkAnswers objects heads (Err s) = WalkRefused objects heads s

-- at most one object was read for each of so many names below the heads
pub record ReadsBelow (objects : Objects) (heads : List Name) (before after : ℕ) : Type 0 where
  pub names : List Name
  pub once : AreDistinct names
  pub each : (name : Name) → Contains names name → IsBelow objects heads name
  pub few : after ≤ before + length names
