-- How members are written: each name in quotes, with the text of its value, without white space.
use Rattle.std.specs.Prelude.{⊤, ℕ, List, [], ◌∷◌, map}
use Rattle.std.specs.Str.{IsUtf8}
use Rattle.base64.specs.Engines.{standard}
use Rattle.base64.specs.GeneralPurpose.{encode_of}
use Rattle.json.specs.Print.{quoted}
use Rattle.json_span.specs.Grammar.{IsValueText}
use Rattle.json_span.specs.Joined.{array_text, object_text}
use Rattle.op_kind.specs.Members.{Fields}

-- a member with its name in quotes
abbrev pub named : List ℕ × List ℕ → List ℕ × List ℕ
named f = (quoted f.0, f.1)

-- The text of an object with these members, in their order.
abbrev pub fields_text : Fields → List ℕ
fields_text fs = object_text (map named fs)

-- the text of a nonce
abbrev pub nonce_text : List ℕ → List ℕ
nonce_text n = quoted (encode_of standard n)

-- The name is UTF-8, and so is the value, a value text with at most so many brackets open at one place.
pub record IsWritable (depth : ℕ) (f : List ℕ × List ℕ) : Type 0 where
  pub name : IsUtf8 f.0
  pub utf8 : IsUtf8 f.1
  pub value : IsValueText depth f.1

-- each of the members is writable
abbrev pub EachWritable : ℕ → Fields → Type 0
EachWritable depth [] = ⊤
EachWritable depth (f ∷ fs) = IsWritable depth f × EachWritable depth fs

-- each of the texts is UTF-8
abbrev pub EachUtf8 : List (List ℕ) → Type 0
EachUtf8 [] = ⊤
EachUtf8 (t ∷ ts) = IsUtf8 t × EachUtf8 ts

-- the text of an array of these texts
abbrev pub texts_text : List (List ℕ) → List ℕ
texts_text ts = array_text (map quoted ts)
