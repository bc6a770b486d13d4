-- What refs lead to is never lost.
use Rattle.std.specs.Prelude.{◌≡◌, ℕ, List, [], ◌∷◌}
use Rattle.gb_text.specs.declared.id.Id.{Id}
use Rattle.gb_text.specs.declared.id.Name.{Name}
use Rattle.gb_store.specs.Files.{Files, History, files_of}
use Rattle.gb_store.specs.Moments.{IsMoment}
use Rattle.commit_walk.specs.Below.{IsBelow}
use Rattle.object_store.specs.Growth.{OnlyGrew}
use Rattle.object_store.specs.Held.{objects_in}
use Rattle.ref_store.specs.Refs.{Head}
use Rattle.repo_state.specs.Sides.{head_at}
use Rattle.repo_state.specs.declared.side.Side.{Side}

-- each object of a folder is as it was, and the commits below each head that its refs had, on whatever side, are below that head still
pub record LeadsAsBefore (folder : List ℕ) (old new : Files) : Type 0 where
  pub objects : OnlyGrew (objects_in old folder) (objects_in new folder)
  pub commits : (of : Side) (id : Id) (head name : Name) → head_at old folder of id ≡ Head head
      → IsBelow (objects_in old folder) (head ∷ []) name → IsBelow (objects_in new folder) (head ∷ []) name

-- so it is from each moment of a call to each later one
abbrev pub LeadsOn : List ℕ → History → History → Type 0
LeadsOn folder old new = (early late : History) → IsMoment old new early → IsMoment early new late → LeadsAsBefore folder (files_of early) (files_of late)
