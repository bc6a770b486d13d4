-- The digits of a prefix, and the ids that it fits.
use Rattle.std.specs.Prelude.{ℕ, Bool, List, length, take}
use Rattle.std.specs.Str.{bytes_eq}
use Rattle.hex.specs.Hex.{encode_lower}
use Rattle.gb_text.specs.declared.id.Id.{Id}
use Rattle.gb_text.specs.declared.prefix.Prefix.{Prefix}

-- its digits
abbrev pub digits_of : Prefix → List ℕ
digits_of prefix = take prefix.count prefix.digits

-- the text begins with the digits
abbrev pub begins_with : List ℕ → List ℕ → Bool
begins_with digits text = bytes_eq (take (length digits) text) digits

-- the id's text begins with the digits of the prefix
abbrev pub fits : Prefix → Id → Bool
fits prefix id = begins_with (digits_of prefix) (encode_lower id.bytes)
