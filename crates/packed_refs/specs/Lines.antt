-- The lines of a text, each ended by a line feed, the last one's optional.
use Rattle.std.specs.Prelude.{◌≢◌, ℕ, List, [], ◌∷◌, ◌++◌, ◌==◌, if◌then◌else◌, All}
use Rattle.std.specs.List.{flat_map}

-- lines with one more byte at the front of the first one
abbrev pub onto_first : ℕ → List (List ℕ) → List (List ℕ)
onto_first x [] = (x ∷ []) ∷ []
onto_first x (line ∷ lines) = (x ∷ line) ∷ lines

-- the lines of a text, without their line feeds; the empty text has none
unfoldable pub lines_of : List ℕ → List (List ℕ)
lines_of [] = []
lines_of (x ∷ xs) = if x == 10 then [] ∷ lines_of xs else onto_first x (lines_of xs)

-- no byte of the line is a line feed
abbrev pub HasNoLineFeed : List ℕ → Type 0
HasNoLineFeed line = All (λ byte. byte ≢ 10) line

-- lines, each ended by a line feed
abbrev pub text_of : List (List ℕ) → List ℕ
text_of lines = flat_map (λ line. line ++ 10 ∷ []) lines
