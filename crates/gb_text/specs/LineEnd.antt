-- One line feed at the end of a text.
use Rattle.std.specs.Prelude.{ℕ, ◌-◌, if◌then◌else◌, List, [], ◌∷◌, length, take, drop}
use Rattle.std.specs.Str.{bytes_eq}

-- the text without one LF at its end, where it has one
abbrev pub line_of : List ℕ → List ℕ
line_of text =
    if bytes_eq (drop (length text - 1) text) (10 ∷ []) then take (length text - 1) text else text
