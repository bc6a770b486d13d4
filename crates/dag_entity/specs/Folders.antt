-- Folders that hold what an entity needs.
use Rattle.std.specs.Prelude.{◌≡◌, ℕ, List, Some}
use Rattle.gb_text.specs.declared.id.Name.{Name}
use Rattle.object_store.specs.Held.{Objects, text_at}
use Rattle.dag_entity.specs.Nodes.{IsNeeded}

-- an object text stands under each name that the entity at the heads needs
abbrev pub HoldsNeeded : Objects → List Name → Type 0
HoldsNeeded objects heads = (name : Name) → IsNeeded objects heads name → (text : List ℕ) × (text_at objects name ≡ Some text)

-- no two object texts of the two folders share a name
abbrev pub HaveOneText : Objects → Objects → Type 0
HaveOneText one two = (name : Name) (a b : List ℕ) → text_at one name ≡ Some a → text_at two name ≡ Some b → a ≡ b
