-- The folders of a world.
use Rattle.std.specs.Prelude.{ℕ, zero, suc, List, [], ◌∷◌}
use Rattle.world_events.specs.Words.{folder_word}

-- so many folders, the last first. The path of each is its word
abbrev pub world_folders : ℕ → List (List ℕ)
world_folders zero = []
world_folders (suc n) = folder_word n ∷ world_folders n
