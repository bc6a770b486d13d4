-- Objects that were only added.
use Rattle.std.specs.Prelude.{◌≡◌, ℕ, List, Some}
use Rattle.gb_text.specs.declared.id.Name.{Name}
use Rattle.object_store.specs.Held.{Objects}

-- what stood under a name still stands
pub record OnlyGrew (old new : Objects) : Type 0 where
  pub stays : (name : Name) (text : List ℕ) → old name ≡ Some text → new name ≡ Some text
