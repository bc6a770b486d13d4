-- How refs are written as a packed text.
use Rattle.std.specs.Prelude.{◌≢◌, ℕ, List, [], ◌∷◌, ◌++◌, map}
use Rattle.hex.specs.Hex.{encode_lower}
use Rattle.gb_text.specs.Digits.{IsName}
use Rattle.packed_refs.specs.Lines.{HasNoLineFeed, text_of}
use Rattle.packed_refs.specs.Packed.{PackedRef}

-- the line of a ref, without its line feed: the 40 digits of its head, a space and its name
abbrev pub line_of : PackedRef → List ℕ
line_of one = encode_lower one.head.bytes ++ 32 ∷ one.name

-- the text of refs: a line for each, with no comment and no peeled object
abbrev pub packed_text : List PackedRef → List ℕ
packed_text refs = text_of (map line_of refs)

-- a ref that a line can have: its head is a name, and its own name is one byte or more, none of them a line feed
pub record IsPackable (one : PackedRef) : Type 0 where
  pub is_name : IsName one.head
  pub some : one.name ≢ []
  pub no_line_feed : HasNoLineFeed one.name
