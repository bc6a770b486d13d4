-- The width of a text, and characters whose width adds to it.
use Rattle.std.specs.Prelude.{◌≡◌, ℕ, ◌+◌, ◌≤◌, Bool, false, not, ◌&&◌, ◌==◌, nat_lt, Option, Some, None, List, [], ◌∷◌, ◌++◌, chars}
use Rattle.std.specs.Int.{is_in_range}
use Rattle.unicode_width.specs.Width.{char_width, str_width}

-- the columns that these characters take together
abbrev pub width : List ℕ → ℕ
width cs = str_width false cs

-- the character adds this width to every text that it follows
abbrev pub AddsWidth : ℕ → ℕ → Type 0
AddsWidth c added = (front : List ℕ) → width (front ++ c ∷ []) ≡ width front + added

-- printable ASCII
abbrev pub is_printable : ℕ → Bool
is_printable c = is_in_range 0x20 0x7E c

-- the width is known, and is zero
abbrev pub is_zero : Option ℕ → Bool
is_zero None = false
is_zero (Some n) = n == 0

-- a character without a width that is no variation selector
abbrev pub is_mark : ℕ → Bool
is_mark c = nat_lt 0xA0 c && is_zero (char_width false c) && not (is_in_range 0xFE00 0xFE0F c)

-- the text ends with the character, and what it follows is so wide and fits
pub record Follows (text : List ℕ) (c before : ℕ) : Type 0 where
  pub front : List ℕ
  pub ends : chars text ≡ front ++ c ∷ []
  pub wide : before ≡ width front
  pub fits : before ≤ 200
