-- Cells: texts in a fixed number of columns.
use Rattle.std.specs.Prelude.{◌≡◌, ℕ, ◌+◌, ◌-◌, ◌≤◌, ◌<◌, nat_le, List, [], ◌∷◌, ◌++◌, length, take, chars, codes, encode_utf8_all, if◌then◌else◌}
use Rattle.std.specs.List.{repeat}
use Rattle.columns.specs.Widths.{width}

-- so many spaces
abbrev pub spaces : ℕ → List ℕ
spaces count = repeat count (codes " ")

-- the first characters, with as many of those that follow as fit one after another
abbrev pub front_on : ℕ → List ℕ → List ℕ → List ℕ
front_on most front [] = front
front_on most front (c ∷ cs) = if nat_le (width (front ++ c ∷ [])) most then front_on most (front ++ c ∷ []) cs else front

-- the longest prefix of a text such that it and every shorter prefix fit
abbrev pub front_of : ℕ → List ℕ → List ℕ
front_of most text = front_on most [] (chars text)

-- these characters, then `~`, then spaces up to the last column
abbrev pub cut_cell : ℕ → List ℕ → List ℕ
cut_cell most front = encode_utf8_all front ++ codes "~" ++ spaces (most - width front)

-- the text in so many columns: with spaces after it, or cut one column earlier
abbrev pub cell_of : ℕ → List ℕ → List ℕ
cell_of columns text =
    if nat_le (width (chars text)) columns then text ++ spaces (columns - width (chars text))
    else cut_cell (columns - 1) (front_of (columns - 1) text)

-- the longest prefix such that it and every shorter prefix fit
pub record IsLongest (most : ℕ) (cs front : List ℕ) : Type 0 where
  pub begins : front ≡ take (length front) cs
  pub fits : (k : ℕ) → k ≤ length front → width (take k cs) ≤ most
  pub longest : length front < length cs → most < width (take (length front + 1) cs)
