-- Lines.
use Rattle.std.specs.Prelude.{ℕ, List, ◌++◌, codes}

-- a line: a word, a space and what it tells
abbrev pub told_line : List ℕ → List ℕ → List ℕ
told_line word told = word ++ codes " " ++ told ++ codes "\n"
