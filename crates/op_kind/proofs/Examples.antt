-- Worked examples of the definitions, computed.
use Rattle.std.specs.Prelude.{◌≡◌, ⊤, ℕ, List, codes, [], ◌∷◌, Some, None}
use Rattle.std.specs.Fmt.{digits}
use Rattle.std.specs.Str.{chars, is_utf8}
use Rattle.std.proofs.Common.{refl}
use Rattle.base64.proofs.OnLiterals.{base64_on_literals}
use Rattle.serde_json.proofs.OnLiterals.{serde_json_on_literals}
use Rattle.json_span.proofs.Examples.{json_span_on_literals}
use Rattle.op_kind.specs.Common.{parts_of, kind_of, time_of, nonce_of, metadata_of, time_at}
use Rattle.op_kind.specs.Members.{text_at}
use Rattle.op_kind.specs.Metadata.{pairs_at}
use Rattle.op_kind.specs.Nonces.{nonce_at}

-- what an answer unfolds to compute the readers on a literal
unfoldable pub op_kind_on_literals : ⊤
unfolding digits chars is_utf8 base64_on_literals serde_json_on_literals json_span_on_literals parts_of kind_of time_of nonce_of metadata_of text_at pairs_at nonce_at
op_kind_on_literals = tt

-- 20 bytes
abbrev nonce : List ℕ
nonce = 0 ∷ 0 ∷ 0 ∷ 0 ∷ 0 ∷ 0 ∷ 0 ∷ 0 ∷ 0 ∷ 0 ∷ 0 ∷ 0 ∷ 0 ∷ 0 ∷ 0 ∷ 0 ∷ 0 ∷ 0 ∷ 0 ∷ 0 ∷ []

-- texts: JSON strings (RFC 8259, section 7)
text_plain : text_at (codes "\"a\"") ≡ Some (codes "a")
unfolding op_kind_on_literals
text_plain = refl

text_empty : text_at (codes "\"\"") ≡ Some []
unfolding op_kind_on_literals
text_empty = refl

text_escapes : text_at (codes "\"\\n\\\"\\/\"") ≡ Some (10 ∷ 34 ∷ 47 ∷ [])
unfolding op_kind_on_literals
text_escapes = refl

text_unicode : text_at (codes "\"\\u00e9\"") ≡ Some (195 ∷ 169 ∷ [])
unfolding op_kind_on_literals
text_unicode = refl

text_pair : text_at (codes "\"\\ud83d\\ude00\"") ≡ Some (240 ∷ 159 ∷ 152 ∷ 128 ∷ [])
unfolding op_kind_on_literals
text_pair = refl

text_lone_surrogate : text_at (codes "\"\\ud83d\"") ≡ None
unfolding op_kind_on_literals
text_lone_surrogate = refl

text_number : text_at (codes "1") ≡ None
unfolding op_kind_on_literals
text_number = refl

text_null : text_at (codes "null") ≡ None
unfolding op_kind_on_literals
text_null = refl

text_open : text_at (codes "\"a") ≡ None
unfolding op_kind_on_literals
text_open = refl

text_no_utf8 : text_at (34 ∷ 255 ∷ 34 ∷ []) ≡ None
unfolding op_kind_on_literals
text_no_utf8 = refl

-- times
time_zero : time_at (codes "0") ≡ Some 0
unfolding digits
time_zero = refl

time_greatest : time_at (codes "9223372036854775807") ≡ Some 9223372036854775807
unfolding digits
time_greatest = refl

time_one_more : time_at (codes "9223372036854775808") ≡ None
unfolding digits
time_one_more = refl

time_fraction : time_at (codes "1.0") ≡ None
unfolding digits
time_fraction = refl

time_negative : time_at (codes "-1") ≡ None
unfolding digits
time_negative = refl

-- nonces: standard base64 with its padding (RFC 4648, section 4)
nonce_of_20 : nonce_at (codes "AAAAAAAAAAAAAAAAAAAAAAAAAAA=") ≡ Some nonce
unfolding op_kind_on_literals
nonce_of_20 = refl

nonce_of_19 : nonce_at (codes "AAAAAAAAAAAAAAAAAAAAAAAAAA==") ≡ None
unfolding op_kind_on_literals
nonce_of_19 = refl

nonce_no_padding : nonce_at (codes "AAAAAAAAAAAAAAAAAAAAAAAAAAA") ≡ None
unfolding op_kind_on_literals
nonce_no_padding = refl

nonce_loose_bits : nonce_at (codes "AAAAAAAAAAAAAAAAAAAAAAAAAAB=") ≡ None
unfolding op_kind_on_literals
nonce_loose_bits = refl

nonce_of_urls : nonce_at (codes "____________________________") ≡ None
unfolding op_kind_on_literals
nonce_of_urls = refl

nonce_line_feed : nonce_at (codes "AAAAAAAAAAAAAAAAAAAAAAAAAAA=\n") ≡ None
unfolding op_kind_on_literals
nonce_line_feed = refl

nonce_empty : nonce_at [] ≡ None
unfolding op_kind_on_literals
nonce_empty = refl

-- metadata: an object of texts with distinct keys
pairs_none : pairs_at (codes "{}") ≡ Some []
unfolding op_kind_on_literals
pairs_none = refl

pairs_in_order : pairs_at (codes "{\"b\":\"1\",\"a\":\"2\"}") ≡ Some (record { key = codes "a"; value = codes "2" } ∷ record { key = codes "b"; value = codes "1" } ∷ [])
unfolding op_kind_on_literals
pairs_in_order = refl

pairs_repeated : pairs_at (codes "{\"a\":\"1\",\"\\u0061\":\"2\"}") ≡ None
unfolding op_kind_on_literals
pairs_repeated = refl

pairs_number : pairs_at (codes "{\"a\":1}") ≡ None
unfolding op_kind_on_literals
pairs_number = refl

pairs_array : pairs_at (codes "[]") ≡ None
unfolding op_kind_on_literals
pairs_array = refl
