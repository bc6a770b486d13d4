-- The lists in a row's text: of texts, of ids, of pairs in the order in which they are written.
use Rattle.std.specs.Prelude.{◌&&◌, ℕ, Bool, true, List, [], ◌∷◌, ◌++◌, map, codes, Option, Some, None, option_and_then, if◌then◌else◌}
use Rattle.std.specs.Cmp.Lexicographic.{slice_cmp}
use Rattle.std.specs.Ordering.{is_lt, nat_cmp}
use Rattle.std.specs.Str.{bytes_eq}
use Rattle.hex.specs.Hex.{encode_lower}
use Rattle.gb_text.specs.Digits.{id_of}
use Rattle.gb_text.specs.declared.id.Id.{Id}
use Rattle.json_span.specs.Parts.{members_of}
use Rattle.op_kind.specs.Forms.{texts_at}
use Rattle.op_kind.specs.Members.{text_at}
use Rattle.op_kind.specs.declared.place.Pair.{Pair}

-- the texts of an array, which `null` is not
abbrev pub array_at : List ℕ → Option (List (List ℕ))
array_at value = if bytes_eq value (codes "null") then None else texts_at value

-- one more id, if both are there
abbrev pub with_id : Option Id → Option (List Id) → Option (List Id)
with_id None ids = None
with_id (Some id) None = None
with_id (Some id) (Some ids) = Some (id ∷ ids)

-- the ids whose digits the texts are, if each is that of one
abbrev pub ids_of : List (List ℕ) → Option (List Id)
ids_of [] = Some []
ids_of (t ∷ ts) = with_id (id_of t) (ids_of ts)

-- the ids of an array of their digits
abbrev pub ids_at : List ℕ → Option (List Id)
ids_at value = option_and_then ids_of (array_at value)

-- the 64 digits of an id
abbrev pub digits_of : Id → List ℕ
digits_of id = encode_lower id.bytes

-- a pair of two texts, if both are there
abbrev pub pair_with : Option (List ℕ) → Option (List ℕ) → Option Pair
pair_with None value = None
pair_with (Some key) None = None
pair_with (Some key) (Some value) = Some (record { key = key; value = value })

-- some pairs, and those of further members
abbrev pub pairs_from : List Pair → List (List ℕ × List ℕ) → Option (List Pair)
pairs_from pairs [] = Some pairs
pairs_from pairs (m ∷ ms) = option_and_then (λ p. pairs_from (pairs ++ p ∷ []) ms) (pair_with (text_at m.0) (text_at m.1))

-- the pairs of an object of texts, in the order in which they are written
abbrev pub pairs_at : List ℕ → Option (List Pair)
pairs_at json = option_and_then (pairs_from []) (members_of json)

-- the keys of pairs
abbrev pub keys_of : List Pair → List (List ℕ)
keys_of pairs = map (λ p. p.key) pairs

-- the texts ascend in byte order, from this one on, and no text is there twice
abbrev pub ascend_from : List ℕ → List (List ℕ) → Bool
ascend_from last [] = true
ascend_from last (t ∷ ts) = is_lt (slice_cmp nat_cmp last t) && ascend_from t ts

-- the texts ascend in byte order, and no text is there twice
abbrev pub ascend : List (List ℕ) → Bool
ascend [] = true
ascend (t ∷ ts) = ascend_from t ts
