-- The search for a name below another: what is read before it is met.
use Rattle.std.specs.Prelude.{◌≡◌, ◌<◌, ◌≤◌, ◌+◌, ℕ, List, length, slice_get, Contains, Some}
use Rattle.gb_text.specs.declared.id.Name.{Name}
use Rattle.object_store.specs.Held.{Objects}
use Rattle.commit_walk.specs.Below.{IsParent}
use Rattle.commit_walk.specs.Distinct.{AreDistinct}

-- a way leads here from the high name, and no name above here on it is the low one
pub data IsOnWay (objects : Objects) (high low : Name) : Name → Type 0 where
  start : IsOnWay objects high low high
  onward : {name next : Name} → IsOnWay objects high low name → (name ≡ low → ⊥) → IsParent objects name next → IsOnWay objects high low next

-- the names read, in their order and each once: ways lead to them that do not pass the low name, which is not read, and after a name with the low one as a parent nothing is read
pub record ReadsUntil (objects : Objects) (high low : Name) (before after : ℕ) : Type 0 where
  pub names : List Name
  pub once : AreDistinct names
  pub each : (name : Name) → Contains names name → IsOnWay objects high low name
  pub not_low : Contains names low → ⊥
  pub last : (place : ℕ) (name : Name) → place + 1 < length names → slice_get names place ≡ Some name → IsParent objects name low → ⊥
  pub few : after ≤ before + length names
