-- How many commits lie below a head, and that none lies below itself.
use Rattle.std.specs.Prelude.{[], ◌∷◌}
use Rattle.gb_text.specs.declared.id.Name.{Name}
use Rattle.object_store.specs.Held.{Objects}
use Rattle.commit_walk.specs.Below.{AreTooMany, IsBelow, IsParent}

-- a name lies below a parent of the commit under another
pub record LiesUnder (objects : Objects) (high low : Name) : Type 0 where
  pub parent : Name
  pub is_parent : IsParent objects high parent
  pub below : IsBelow objects (parent ∷ []) low

-- no commit below a head lies below one of its own parents
abbrev pub HasNoRing : Objects → Name → Type 0
HasNoRing objects head = (name : Name) → IsBelow objects (head ∷ []) name → LiesUnder objects name name → ⊥

-- at most 65,536 commits lie below a head
abbrev pub HasFewCommits : Objects → Name → Type 0
HasFewCommits objects head = AreTooMany objects (head ∷ []) → ⊥
