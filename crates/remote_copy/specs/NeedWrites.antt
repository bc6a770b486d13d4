-- A put of one object after all that it names.
use Rattle.std.specs.Prelude.{ℕ, List, [], ◌∷◌}
use Rattle.gb_store.specs.Files.{Files}
use Rattle.gb_store.specs.declared.store.Change.{Change}
use Rattle.object_batch.specs.Needs.{PutsAfterNeeds}

-- a write of one text under its name, where nothing stands, after all that its object names
abbrev pub PutsOneAfterNeeds : List ℕ → Files → Change → Type 0
PutsOneAfterNeeds folder files change = (text : List ℕ) × PutsAfterNeeds folder (text ∷ []) files change
