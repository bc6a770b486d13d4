-- Texts of operations.
use Rattle.std.specs.Prelude.{◌≡◌, ℕ, ◌-◌, List, Some}
use Rattle.std.specs.Str.{IsUtf8}
use Rattle.json_span.specs.Grammar.{IsValueText}
use Rattle.json_span.specs.Parts.{members_of}
use Rattle.json_span.specs.declared.nest.TheConstants.{MOST_BRACKETS}

-- the most brackets that may be open at one place of an operation, its own among them: those of a part of a pack, but for the list of operations
abbrev pub op_brackets : ℕ
op_brackets = MOST_BRACKETS - 1

-- the most that may be open at one place of its members' values
abbrev pub member_brackets : ℕ
member_brackets = MOST_BRACKETS - 2

-- The text is UTF-8 and an object with no white space at its ends and not too many brackets open at one place.
pub record IsOpText (text : List ℕ) : Type 0 where
  pub utf8 : IsUtf8 text
  pub value : IsValueText op_brackets text
  pub members : List (List ℕ × List ℕ)
  pub object : members_of text ≡ Some members
