-- What members are written as reads back, and is the text of an operation.
use Rattle.std.proofs.Common.{◌≡◌, ◌≤◌, ◌<◌, ◌^◌, ◌-◌, ◌∙◌, ◌&&◌, refl, ap, List, [], ◌∷◌, ℕ, Bool, true, Some, None, map, arith, le-leb}
use Rattle.std.specs.Prelude.{option_and_then, decimal, All, nat_lt, if◌then◌else◌}
use Rattle.std.specs.Option.{option_map}
use Rattle.std.specs.Str.{IsUtf8, IsAscii}
use Rattle.std.proofs.lemmas.Bool.{and_parts, ltb-true}
use Rattle.std.proofs.lemmas.Str.Ascii.{IsAscii-nil, IsAscii-cons}
use Rattle.std.proofs.lemmas.Fmt.{IsAscii-decimal}
use Rattle.std.proofs.lemmas.List.Elements.{All-nil, All-cons}
use Rattle.std.proofs.lemmas.Str.{IsUtf8-append, IsUtf8-from_ascii}
use Rattle.base64.specs.Engines.{standard}
use Rattle.base64.specs.GeneralPurpose.{encode_of}
use Rattle.base64.proofs.EngineFacts.{decode_of-encode_of, IsAscii-encode_of}
use Rattle.hex.specs.Hex.{encode_lower, lower_digits}
use Rattle.hex.proofs.HexLemmas.{IsAscii-encode_with}
use Rattle.gb_text.specs.Decimal.{decimal_of}
use Rattle.gb_text.specs.Digits.{IsId, id_of}
use Rattle.gb_text.specs.declared.id.Id.{Id}
use Rattle.gb_text.proofs.DecimalLemmas.{decimal_of-decimal}
use Rattle.gb_text.proofs.DigitLemmas.{id_of-encode_lower}
use Rattle.json.specs.Print.{quoted}
use Rattle.json.proofs.Printed.Utf8.{IsUtf8-quoted, IsUtf8-are_ascii}
use Rattle.gb_text.specs.declared.decimal.TheConstants.{GREATEST_TIME}
use Rattle.json_span.specs.declared.nest.TheConstants.{MOST_BRACKETS}
use Rattle.json_span.specs.Joined.{behind_commas, joined, member_text, IsMemberOf}
use Rattle.json_span.proofs.JoinLaws.{members_joined, object_value}
use Rattle.json_span.proofs.ValueLaws.{deeper, decimal_value}
use Rattle.op_kind.specs.Common.{within_limit, time_at, nonce_in}
use Rattle.op_kind.specs.Forms.{id_at}
use Rattle.op_kind.specs.Members.{Fields, with_member, fields_of, fields_at}
use Rattle.op_kind.specs.Nonces.{IsNonce, nonce_at}
use Rattle.op_kind.specs.NonceLaws.{decoded_nonce}
use Rattle.op_kind.specs.OpText.{IsOpText, member_brackets}
use Rattle.op_kind.specs.QuotedLaws.{quoted_is_string, quoted_is_value, quoted_reads}
use Rattle.op_kind.specs.Written.{named, fields_text, nonce_text, IsWritable, EachWritable}

-- ---- values

-- A text in quotes is writable.
pub text_writable : (depth : ℕ) (name t : List ℕ) → IsUtf8 name → IsUtf8 t → IsWritable depth (name, quoted t)
text_writable depth name t name_utf8 utf8 = record { name = name_utf8; utf8 = IsUtf8-quoted t utf8; value = quoted_is_value depth t }

-- A decimal is writable.
pub decimal_writable : (depth : ℕ) (name : List ℕ) (n : ℕ) → IsUtf8 name → n < 2 ^ 64 → IsWritable depth (name, decimal n)
decimal_writable depth name n utf8 below = record { name = utf8; utf8 = IsUtf8-from_ascii _ (IsAscii-decimal n below); value = decimal_value depth n below }

-- A decimal reads as its number.
pub decimal_reads : (n : ℕ) → n < 2 ^ 64 → decimal_of (decimal n) ≡ Some n
decimal_reads n below = decimal_of-decimal (decimal n) n (record { below = below; prints = refl })

-- A decimal within the limit reads as a time.
pub time_reads : (n : ℕ) → n ≤ GREATEST_TIME → time_at (decimal n) ≡ Some n
time_reads n low =
    ap (option_and_then within_limit) (decimal_reads n (omega arith))
    ∙ ap (λ b. if b then Some n else None) (le-leb n GREATEST_TIME low)

encoded_utf8 : (n : List ℕ) → IsUtf8 (encode_of standard n)
encoded_utf8 n = IsUtf8-from_ascii _ (IsAscii-encode_of standard n)

decoded : (n : List ℕ) → IsNonce n → nonce_at (encode_of standard n) ≡ Some n
decoded n is = decoded_nonce (encode_of standard n) n (decode_of-encode_of standard n (search arith) is.bytes) is.least is.most is.bytes

-- The text of a nonce reads as the nonce.
pub nonce_reads : (n : List ℕ) → IsNonce n → nonce_in (nonce_text n) ≡ Some n
nonce_reads n is = ap (option_and_then nonce_at) (quoted_reads (encode_of standard n) (encoded_utf8 n)) ∙ decoded n is

-- The text of a nonce is writable.
pub nonce_writable : (depth : ℕ) (name n : List ℕ) → IsUtf8 name → IsWritable depth (name, nonce_text n)
nonce_writable depth name n utf8 = text_writable depth name _ utf8 (encoded_utf8 n)

-- ---- objects

names_read : (depth : ℕ) (fs : Fields) → EachWritable depth fs → fields_of (map named fs) ≡ fs
names_read depth [] each = refl
names_read depth (f ∷ fs) each =
    ap (λ name. with_member name f.1 (fields_of (map named fs))) (quoted_reads f.0 each.0.name)
    ∙ ap (λ rest. (f.0, f.1) ∷ rest) (names_read depth fs each.1)

-- Members that are written are those of an object.
pub each_member : (low high : ℕ) (fs : Fields) → low ≤ high → EachWritable low fs → All (IsMemberOf high) (map named fs)
each_member low high [] le each = All-nil (IsMemberOf high)
each_member low high (f ∷ fs) le each =
    All-cons (IsMemberOf high) (named f) (map named fs) (quoted_is_string f.0, deeper low high f.1 le each.0.value) (each_member low high fs le each.1)

-- The members of what is written are those that were written.
pub fields_read : (depth : ℕ) (fs : Fields) → depth ≤ MOST_BRACKETS → EachWritable depth fs → fields_at (fields_text fs) ≡ Some fs
fields_read depth fs low each =
    ap (option_map fields_of) (members_joined (map named fs) (each_member depth MOST_BRACKETS fs low each))
    ∙ ap Some (names_read depth fs each)

-- A comma is UTF-8.
pub comma : IsUtf8 (44 ∷ [])
comma = IsUtf8-are_ascii (44 ∷ []) refl

colon : IsUtf8 (58 ∷ [])
colon = IsUtf8-are_ascii (58 ∷ []) refl

opening : IsUtf8 (123 ∷ [])
opening = IsUtf8-are_ascii (123 ∷ []) refl

closing : IsUtf8 (125 ∷ [])
closing = IsUtf8-are_ascii (125 ∷ []) refl

member_utf8 : (depth : ℕ) (f : List ℕ × List ℕ) → IsWritable depth f → IsUtf8 (member_text (named f))
member_utf8 depth f is = IsUtf8-append _ _ (IsUtf8-quoted f.0 is.name) (IsUtf8-append (58 ∷ []) f.1 colon is.utf8)

commas_utf8 : (depth : ℕ) (fs : Fields) → EachWritable depth fs → IsUtf8 (behind_commas (map member_text (map named fs)))
commas_utf8 depth [] each = IsUtf8-are_ascii [] refl
commas_utf8 depth (f ∷ fs) each =
    IsUtf8-append (44 ∷ []) _ comma (IsUtf8-append _ _ (member_utf8 depth f each.0) (commas_utf8 depth fs each.1))

joined_utf8 : (depth : ℕ) (fs : Fields) → EachWritable depth fs → IsUtf8 (joined (map member_text (map named fs)))
joined_utf8 depth [] each = IsUtf8-are_ascii [] refl
joined_utf8 depth (f ∷ fs) each = IsUtf8-append _ _ (member_utf8 depth f each.0) (commas_utf8 depth fs each.1)

-- What is written of members is UTF-8.
pub fields_utf8 : (depth : ℕ) (fs : Fields) → EachWritable depth fs → IsUtf8 (fields_text fs)
fields_utf8 depth fs each = IsUtf8-append (123 ∷ []) _ opening (IsUtf8-append _ _ (joined_utf8 depth fs each) closing)

-- What is written of members with not too many brackets open is the text of an operation.
pub text_of_operation : (fs : Fields) → EachWritable member_brackets fs → IsOpText (fields_text fs)
text_of_operation fs each = record {
  utf8 = fields_utf8 member_brackets fs each;
  value = object_value member_brackets (map named fs) (each_member member_brackets member_brackets fs (omega arith) each);
  members = map named fs;
  object = members_joined (map named fs) (each_member member_brackets MOST_BRACKETS fs (omega arith) each);
}

-- ---- ids

-- each byte is below 128
abbrev are_low : List ℕ → Bool
are_low [] = true
are_low (b ∷ bs) = nat_lt b 128 && are_low bs

low_is_ascii : (bs : List ℕ) → are_low bs ≡ true → IsAscii bs
low_is_ascii [] h = IsAscii-nil
low_is_ascii (b ∷ bs) h = let both = and_parts (nat_lt b 128) (are_low bs) h in IsAscii-cons b bs (ltb-true b 128 both.0) (low_is_ascii bs both.1)

digits_utf8 : (id : Id) → IsUtf8 (encode_lower id.bytes)
digits_utf8 id = IsUtf8-from_ascii _ (IsAscii-encode_with lower_digits id.bytes (low_is_ascii lower_digits refl))

-- An id in quotes reads as the id.
pub id_reads : (id : Id) → IsId id → id_at (quoted (encode_lower id.bytes)) ≡ Some id
id_reads id is = ap (option_and_then id_of) (quoted_reads _ (digits_utf8 id)) ∙ id_of-encode_lower id is

-- An id in quotes is writable.
pub id_writable : (depth : ℕ) (name : List ℕ) (id : Id) → IsUtf8 name → IsWritable depth (name, quoted (encode_lower id.bytes))
id_writable depth name id utf8 = text_writable depth name _ utf8 (digits_utf8 id)
