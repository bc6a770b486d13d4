-- Stores that agree about what the chain of an identity needs.
use Rattle.std.specs.Prelude.{◌≡◌}
use Rattle.gb_text.specs.declared.id.Name.{Name}
use Rattle.object_store.specs.Held.{Objects}
use Rattle.commit_walk.specs.Chain.{Meets}
use Rattle.identity.specs.Commits.{Needs}

-- the second store has the same file, or none, under each name that the version of a commit of the chain needs in the first
pub record SameChain (one two : Objects) (head : Name) : Type 0 where
  pub same : (met name : Name) → Meets one head met → Needs one met name → two name ≡ one name
