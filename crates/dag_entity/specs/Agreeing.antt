-- Stores that agree about what an entity needs.
use Rattle.std.specs.Prelude.{◌≡◌, List}
use Rattle.gb_text.specs.declared.id.Name.{Name}
use Rattle.object_store.specs.Held.{Objects}
use Rattle.dag_entity.specs.Nodes.{IsNeeded}

-- the second store has the same file, or none, under each name that the entity at the heads needs in the first
pub record SameNeeded (one two : Objects) (heads : List Name) : Type 0 where
  pub same : (name : Name) → IsNeeded one heads name → two name ≡ one name
