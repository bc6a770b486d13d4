-- Ids and object names, and the lower-case hexadecimal digits that print them.
use Rattle.std.specs.Prelude.{◌≡◌, ℕ, ◌==◌, ◌&&◌, if◌then◌else◌, List, length, Option, Some, None, option_and_then}
use Rattle.std.specs.Option.{option_map}
use Rattle.std.specs.Result.{result_ok}
use Rattle.std.specs.Str.{bytes_eq}
use Rattle.hex.specs.Hex.{IsBytes, encode_lower, decode_of}
use Rattle.gb_text.specs.declared.id.Id.{Id}
use Rattle.gb_text.specs.declared.id.Name.{Name}

-- 32 bytes
pub record IsId (id : Id) : Type 0 where
  pub sized : length id.bytes ≡ 32
  pub bytes : IsBytes id.bytes

-- 20 bytes
pub record IsName (name : Name) : Type 0 where
  pub sized : length name.bytes ≡ 20
  pub bytes : IsBytes name.bytes

-- the bytes, if there are n of them and the text is their digits
abbrev pub printed_as : ℕ → List ℕ → List ℕ → Option (List ℕ)
printed_as n text bytes =
    if (length bytes == n) && bytes_eq (encode_lower bytes) text then Some bytes else None

-- the n bytes whose digits the text is, if there are such
abbrev pub bytes_of_digits : ℕ → List ℕ → Option (List ℕ)
bytes_of_digits n text = option_and_then (printed_as n text) (result_ok (decode_of text))

-- the id whose 64 digits the text is, if it is that of one
abbrev pub id_of : List ℕ → Option Id
id_of text = option_map (λ bytes. record { bytes = bytes }) (bytes_of_digits 32 text)

-- the object name whose 40 digits the text is, if it is that of one
abbrev pub name_of : List ℕ → Option Name
name_of text = option_map (λ bytes. record { bytes = bytes }) (bytes_of_digits 20 text)
