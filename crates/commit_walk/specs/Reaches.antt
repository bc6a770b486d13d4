-- What was found below some names, where names that hold no commit lead nowhere.
use Rattle.std.specs.Prelude.{◌≡◌, ◌≤◌, ◌<◌, ◌+◌, ◌++◌, ◌⊎◌, ⊤, ℕ, List, [], ◌∷◌, length, take, slice_get, Contains, Some, None, Result, Ok, Err, Vec}
use Rattle.std.specs.declared.alloc.Global.{Global}
use Rattle.gb_text.specs.declared.id.Name.{Name}
use Rattle.object_store.specs.Held.{Objects}
use Rattle.commit_walk.specs.Answers.{IsNoCommit}
use Rattle.commit_walk.specs.Below.{FaultHolds, IsBelow, IsCommit, IsParent, names_of}
use Rattle.commit_walk.specs.Distinct.{AreDistinct}
use Rattle.commit_walk.specs.Queues.{Adds}
use Rattle.commit_walk.specs.Searches.{IsOnWay}
use Rattle.commit_walk.specs.declared.below.TheConstants.{MOST_COMMITS}
use Rattle.commit_walk.specs.declared.below.Met.{Met}
use Rattle.commit_walk.specs.declared.fault.WalkFault.{WalkFault}
use Rattle.commit_walk.specs.declared.fault.WalkFault.TheVariants as fault
use Rattle.commit_walk.specs.declared.fault.WalkStop.{WalkStop}
use Rattle.commit_walk.specs.declared.fault.WalkStop.TheVariants as stop
use Rattle.commit_walk.specs.declared.reach.Reach.{Reach}

-- the names that are known, in the order in which they were met
abbrev pub known : Reach → List Name
known reach = reach.queue.names.items

-- a name was read: it held this commit, whose parents were added, or none
pub data TurnedBy (Holds : Met → Type 0) (Lacks : WalkFault → Type 0) (old new : Reach) (name : Name) : Type 0 where
  a_commit : (met : Met) → Holds met → met.name ≡ name → Adds (known old) met.parents (known new) → new.walk.items ≡ old.walk.items ++ met ∷ [] → new.wrong ≡ old.wrong → TurnedBy Holds Lacks old new name
  no_commit : (f : WalkFault) → Lacks f → known new ≡ known old → new.walk.items ≡ old.walk.items → new.wrong ≡ Some f → TurnedBy Holds Lacks old new name

-- a name was read, whatever the store tells
abbrev pub Turned : Reach → Reach → Name → Type 0
Turned old new name = TurnedBy (λ met. ⊤) (λ f. ⊤) old new name

-- a name of a store was read
abbrev pub TurnedIn : Objects → Reach → Reach → Name → Type 0
TurnedIn objects old new name = TurnedBy (IsCommit objects) (IsNoCommit objects name) old new name

-- the first names, so many, were read; where all of them held commits these are in the walk, with their parents among the names
pub record IsReach (tops : List Name) (reach : Reach) (done : ℕ) : Type 0 where
  pub tops_known : (name : Name) → Contains tops name → Contains (known reach) name
  pub parents_known : (met : Met) (name : Name) → Contains reach.walk.items met → Contains met.parents name → Contains (known reach) name
  pub whole : reach.wrong ≡ None → names_of reach.walk.items ≡ take done (known reach)

-- of a store: the names lie below the tops, those that were read have their parents among them, and what was found wrong is so
pub record Reached (objects : Objects) (tops : List Name) (reach : Reach) (done : ℕ) : Type 0 where
  pub tops_known : (name : Name) → Contains tops name → Contains (known reach) name
  pub below : (name : Name) → Contains (known reach) name → IsBelow objects tops name
  pub parents_known : (place : ℕ) (name low : Name) → place < done → slice_get (known reach) place ≡ Some name → IsParent objects name low → Contains (known reach) low
  pub each : (met : Met) → Contains reach.walk.items met → IsCommit objects met
  pub wrong : (f : WalkFault) → reach.wrong ≡ Some f → FaultHolds objects tops f

-- at most one object was read for each name below the tops, of which so many were known before
pub record ReadsKnown (objects : Objects) (tops : List Name) (done before after : ℕ) : Type 0 where
  pub names : List Name
  pub once : AreDistinct names
  pub each : (name : Name) → Contains names name → IsBelow objects tops name
  pub few : after + done ≤ before + length names

-- the answer to whether all that was found are commits
abbrev pub WholeAnswers : Reach → Result (Vec Met Global) WalkStop → Type 0
WholeAnswers reach (Ok walk) = (reach.wrong ≡ None) × (walk ≡ reach.walk) × (length walk.items ≤ MOST_COMMITS)
WholeAnswers reach (Err (stop.Fault fault.TooMany)) = (reach.wrong ≡ Some fault.TooMany) ⊎ ((reach.wrong ≡ None) × (MOST_COMMITS < length reach.walk.items))
WholeAnswers reach (Err (stop.Fault f)) = reach.wrong ≡ Some f
WholeAnswers reach (Err _) = ⊥

-- of a search: all that the head leads to was read, where the sought name is not known
abbrev pub IsSought : Name → Name → Reach → Type 0
IsSought head sought reach = (Contains (known reach) sought → ⊥) → IsReach (head ∷ []) reach (length (known reach))

-- of a search in a store: what is known lies below the head, and is all that does where the sought name is not known
pub record IsSoughtIn (objects : Objects) (head sought : Name) (reach : Reach) : Type 0 where
  pub below : (name : Name) → Contains (known reach) name → IsBelow objects (head ∷ []) name
  pub all : (Contains (known reach) sought → ⊥) → Reached objects (head ∷ []) reach (length (known reach))

-- of a search in a store, where so many names were read: ways that do not pass the sought name lead to what is known; it was not read, and only the last name that was read may have it as a parent
pub record Seeks (objects : Objects) (head sought : Name) (reach : Reach) (done : ℕ) : Type 0 where
  pub way : (name : Name) → Contains (known reach) name → IsOnWay objects head sought name
  pub not_read : (place : ℕ) → place < done → slice_get (known reach) place ≡ Some sought → ⊥
  pub last : (place : ℕ) (name : Name) → place + 1 < done → slice_get (known reach) place ≡ Some name → IsParent objects name sought → ⊥
