-- Folders that hold flat trees alone.
use Rattle.std.specs.Prelude.{◌≡◌, ℕ, List, Contains, Some}
use Rattle.gb_text.specs.declared.id.Name.{Name}
use Rattle.gb_store.specs.Files.{Files}
use Rattle.git_object.specs.declared.tree.Tree.{Tree}
use Rattle.object_store.specs.Held.{Objects, objects_in}
use Rattle.object_store.specs.Typed.{tree_at}
use Rattle.copy_limits.specs.Flat.{IsFlat}

-- each tree that a name holds is flat, whatever names it
abbrev pub AreTreesFlat : Objects → Type 0
AreTreesFlat objects = (name : Name) (tree : Tree) → tree_at objects name ≡ Some tree → IsFlat tree

-- so it is in each of these folders
abbrev pub AreAllFlat : List (List ℕ) → Files → Type 0
AreAllFlat folders files = (folder : List ℕ) → Contains folders folder → AreTreesFlat (objects_in files folder)
