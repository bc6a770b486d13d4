-- The answers to how two names lie to each other, and to the walk below two heads.
use Rattle.std.specs.Prelude.{◌≡◌, ◌≤◌, ⊤, ℕ, List, [], ◌∷◌, length, Result, Ok, Err, Bool, IsTrue, ◌↔◌}
use Rattle.gb_text.specs.declared.id.Name.{Name}
use Rattle.object_store.specs.Held.{Objects}
use Rattle.commit_walk.specs.Below.{AreBelow, FaultHolds, IsBelow}
use Rattle.commit_walk.specs.declared.below.TheConstants.{MOST_COMMITS}
use Rattle.commit_walk.specs.declared.below.Met.{Met}
use Rattle.commit_walk.specs.declared.both.Both.{Both}
use Rattle.commit_walk.specs.declared.both.Both.TheVariants as both
use Rattle.commit_walk.specs.declared.fault.WalkStop.{WalkStop}
use Rattle.commit_walk.specs.declared.fault.WalkStop.TheVariants as stop

-- the low name is the high one or lies below it
abbrev pub LiesAnswers : Objects → Name → Name → Bool → Type 0
LiesAnswers objects high low below = IsTrue below ↔ IsBelow objects (high ∷ []) low

-- The heads are equal; the second is another that lies below the first; or it does not, and these are the commits below both, or something is wrong with them.
abbrev pub BothAnswers : Objects → Name → Name → Result Both WalkStop → Type 0
BothAnswers objects first second (Ok both.Equal) = first ≡ second
BothAnswers objects first second (Ok both.Below) = (first ≡ second → ⊥) × IsBelow objects (first ∷ []) second
BothAnswers objects first second (Ok (both.Walk walk)) =
    (IsBelow objects (first ∷ []) second → ⊥) × AreBelow objects (first ∷ second ∷ []) walk.items × (length walk.items ≤ MOST_COMMITS)
BothAnswers objects first second (Err (stop.Fault f)) = (IsBelow objects (first ∷ []) second → ⊥) × FaultHolds objects (first ∷ second ∷ []) f
BothAnswers objects first second (Err stop.Memory) = ⊤
BothAnswers objects first second (Err stop.Disk) = ⊤

-- a fact of the walk, where there is one
abbrev pub IfWalk : Result Both WalkStop → (List Met → Type 0) → Type 0
IfWalk (Ok (both.Walk walk)) P = P walk.items
IfWalk (Ok both.Below) P = ⊤
IfWalk (Ok both.Equal) P = ⊤
IfWalk (Err _) P = ⊤

-- a fact where the second head is the first or lies below it
abbrev pub IfLies : Result Both WalkStop → Type 0 → Type 0
IfLies (Ok both.Equal) P = P
IfLies (Ok both.Below) P = P
IfLies (Ok (both.Walk walk)) P = ⊤
IfLies (Err _) P = ⊤

-- the heads were found to be equal, and nothing was read
pub record IsKnownEqual (result : Result Both WalkStop) (before after : ℕ) : Type 0 where
  pub equal : result ≡ Ok both.Equal
  pub reads : after ≡ before
