-- A pack that is written reads back.
use Rattle.std.proofs.Common.{◌≡◌, ◌<◌, ◌≤◌, ◌∙◌, ◌/◌, ◌%◌, ◌++◌, ap, sym, refl, subst, ℕ, zero, suc, List, [], ◌∷◌, Some, None, codes, map, length, le-leb, append_assoc, append-nil, rules, arith}
use Rattle.std.specs.Prelude.{option_and_then, if◌then◌else◌, nat_le, All, slice_index, Result, Ok, Err, IfOk}
use Rattle.std.specs.Option.{option_map}
use Rattle.std.specs.List.{AllByRecursion}
use Rattle.std.specs.Str.{IsUtf8}
use Rattle.std.proofs.lemmas.List.{length-map}
use Rattle.std.proofs.lemmas.List.Elements.{All-nil, All-cons}
use Rattle.std.proofs.lemmas.Str.{IsUtf8-append}
use Rattle.hex.specs.Hex.{IsBytes, encode_lower, encode_with, lower_digits}
use Rattle.json.specs.Print.{quoted, escape, escape_byte}
use Rattle.json.proofs.Printed.Utf8.{IsUtf8-quoted, IsUtf8-are_ascii}
use Rattle.gb_text.specs.Digits.{IsId}
use Rattle.gb_text.specs.declared.id.Id.{Id}
use Rattle.gb_text.specs.declared.memory.Memory.{Memory}
use Rattle.json_span.specs.Grammar.{IsValueText}
use Rattle.json_span.specs.Joined.{behind_commas, joined, array_text, object_text, member_text}
use Rattle.json_span.proofs.JoinLaws.{elements_joined, array_value}
use Rattle.json_span.proofs.ValueLaws.{deeper}
use Rattle.op_kind.specs.Meaning.{Meaning, KeepsLaws}
use Rattle.op_kind.specs.Members.{Fields}
use Rattle.op_kind.specs.Written.{named, fields_text, EachWritable}
use Rattle.op_kind.specs.WritingLaws.{fields_read, text_of_operation, id_reads, id_writable}
use Rattle.op_pack.specs.Packs.{hash_of, place_of, ops_at, pack_of, pack_with, pack_at, pack_text, before, MayStand, placed_ops, written_pack}
use Rattle.op_pack.specs.declared.pack.PackText.{PackText}
use Rattle.op_pack.specs.declared.pack.TheConstants.{MOST_OPERATIONS}
use Rattle.json_span.specs.declared.nest.TheConstants.{MOST_BRACKETS}
use Rattle.op_kind.specs.OpText.{op_brackets, member_brackets}
use Rattle.op_pack.specs.Texts.{id_in, author_at, author_of, slices_at, slices_of, IsPackText}
use Rattle.op_pack.specs.declared.head.TreeHead.{TreeHead}
use Rattle.op_pack.proofs.PartsLaws.{parts_only}

-- ---- digits need no escapes

plain_digits : AllByRecursion (λ d. escape_byte d ≡ d ∷ []) lower_digits
unfolding escape_byte
plain_digits = (refl, (refl, (refl, (refl, (refl, (refl, (refl, (refl, (refl, (refl, (refl, (refl, (refl, (refl, (refl, (refl, tt))))))))))))))))

holds_at : (P : ℕ → Type 0) (xs : List ℕ) (i : ℕ) → i < length xs → AllByRecursion P xs → P (slice_index xs i)
holds_at P [] i lt all = absurd (omega arith)
holds_at P (x ∷ xs) zero lt all = all.0
holds_at P (x ∷ xs) (suc i) lt all = holds_at P xs i (omega arith) all.1

plain_digit : (i : ℕ) → i < 16 → escape_byte (slice_index lower_digits i) ≡ slice_index lower_digits i ∷ []
plain_digit i lt = holds_at (λ d. escape_byte d ≡ d ∷ []) lower_digits i lt plain_digits

digits_plain : (bytes : List ℕ) → IsBytes bytes → escape (encode_lower bytes) ≡ encode_lower bytes
unfolding encode_with
digits_plain [] is = refl
digits_plain (b ∷ bs) is =
    let low : b < 256 = is 0 in
    let high_digit = slice_index lower_digits (b / 16) in
    let low_digit = slice_index lower_digits (b % 16) in
    ap (λ (e : List ℕ). e ++ (escape_byte low_digit ++ escape (encode_lower bs))) (plain_digit (b / 16) (omega arith))
    ∙ ap (λ (e : List ℕ). high_digit ∷ (e ++ escape (encode_lower bs))) (plain_digit (b % 16) (omega arith))
    ∙ ap (λ (e : List ℕ). high_digit ∷ low_digit ∷ e) (digits_plain bs (λ i. is (suc i)))

-- ---- the text as an object's

author_fields : Id → Fields
author_fields author = (codes "id", quoted (encode_lower author.bytes)) ∷ []

pack_fields : Id → List (List ℕ) → Fields
pack_fields author texts = (codes "author", fields_text (author_fields author)) ∷ (codes "ops", array_text texts) ∷ []

quoted_author : quoted (codes "author") ≡ codes "\"author\""
unfolding escape_byte
quoted_author = refl

quoted_ops : quoted (codes "ops") ≡ codes "\"ops\""
unfolding escape_byte
quoted_ops = refl

quoted_id : quoted (codes "id") ≡ codes "\"id\""
unfolding escape_byte
quoted_id = refl

object_in : List ℕ → List ℕ → List ℕ → List ℕ → List (List ℕ) → List ℕ
object_in author_name id_name ops_name id texts = object_text ((author_name, object_text ((id_name, id) ∷ [])) ∷ (ops_name, array_text texts) ∷ [])

text_joins : (digits : List ℕ) (texts : List (List ℕ))
    → codes "{\"author\":{\"id\":\"" ++ (digits ++ (codes "\"},\"ops\":[" ++ (joined texts ++ codes "]}"))) ≡ object_in (codes "\"author\"") (codes "\"id\"") (codes "\"ops\"") (34 ∷ (digits ++ 34 ∷ [])) texts
unfolding object_in
text_joins digits texts = search (rules, append_assoc, append-nil)

fields_are : (author : Id) (texts : List (List ℕ)) → IsBytes author.bytes
    → fields_text (pack_fields author texts) ≡ object_in (codes "\"author\"") (codes "\"id\"") (codes "\"ops\"") (34 ∷ (encode_lower author.bytes ++ 34 ∷ [])) texts
unfolding object_in pack_fields author_fields
fields_are author texts is =
    let id = quoted (encode_lower author.bytes) in
    ap (λ n. object_in n (quoted (codes "id")) (quoted (codes "ops")) id texts) quoted_author
    ∙ ap (λ n. object_in (codes "\"author\"") n (quoted (codes "ops")) id texts) quoted_id
    ∙ ap (λ n. object_in (codes "\"author\"") (codes "\"id\"") n id texts) quoted_ops
    ∙ ap (λ (d : List ℕ). object_in (codes "\"author\"") (codes "\"id\"") (codes "\"ops\"") (34 ∷ (d ++ 34 ∷ [])) texts) (digits_plain author.bytes is)

-- ---- its members

ascii_ops : IsUtf8 (codes "ops")
ascii_ops = IsUtf8-are_ascii (codes "ops") refl

ascii_author : IsUtf8 (codes "author")
ascii_author = IsUtf8-are_ascii (codes "author") refl

id_writes : (author : Id) → EachWritable member_brackets (author_fields author)
unfolding author_fields
id_writes author = (id_writable member_brackets (codes "id") author (IsUtf8-are_ascii (codes "id") refl), tt)

-- each text is UTF-8, and a value text with not too many brackets open
pub record IsSlice (text : List ℕ) : Type 0 where
  pub utf8 : IsUtf8 text
  pub value : IsValueText op_brackets text

commas_utf8 : (texts : List (List ℕ)) → AllByRecursion IsSlice texts → IsUtf8 (behind_commas texts)
commas_utf8 [] all = IsUtf8-are_ascii [] refl
commas_utf8 (t ∷ ts) all = IsUtf8-append (44 ∷ []) _ (IsUtf8-are_ascii (44 ∷ []) refl) (IsUtf8-append t _ all.0.utf8 (commas_utf8 ts all.1))

joined_utf8 : (texts : List (List ℕ)) → AllByRecursion IsSlice texts → IsUtf8 (joined texts)
joined_utf8 [] all = IsUtf8-are_ascii [] refl
joined_utf8 (t ∷ ts) all = IsUtf8-append t _ all.0.utf8 (commas_utf8 ts all.1)

array_utf8 : (texts : List (List ℕ)) → AllByRecursion IsSlice texts → IsUtf8 (array_text texts)
array_utf8 texts all = IsUtf8-append (91 ∷ []) _ (IsUtf8-are_ascii (91 ∷ []) refl) (IsUtf8-append _ (93 ∷ []) (joined_utf8 texts all) (IsUtf8-are_ascii (93 ∷ []) refl))

all_values : (depth : ℕ) (texts : List (List ℕ)) → op_brackets ≤ depth → AllByRecursion IsSlice texts → All (IsValueText depth) texts
all_values depth [] le all = All-nil (IsValueText depth)
all_values depth (t ∷ ts) le all = All-cons (IsValueText depth) t ts (deeper op_brackets depth t le all.0.value) (all_values depth ts le all.1)

pack_writes : (author : Id) (texts : List (List ℕ)) → AllByRecursion IsSlice texts → EachWritable MOST_BRACKETS (pack_fields author texts)
unfolding pack_fields
pack_writes author texts all =
    let inner = text_of_operation (author_fields author) (id_writes author) in (
      record { name = ascii_author; utf8 = inner.utf8; value = deeper op_brackets MOST_BRACKETS _ (omega arith) inner.value },
      (record { name = ascii_ops; utf8 = array_utf8 texts all; value = array_value op_brackets texts (all_values op_brackets texts (omega arith) all) }, tt),
    )

author_reads : (author : Id) (texts : List (List ℕ)) → IsId author → author_of (pack_fields author texts) ≡ Some author
unfolding pack_fields author_fields author_at
author_reads author texts is = ap (option_and_then id_in) (fields_read member_brackets (author_fields author) (omega arith) (id_writes author)) ∙ id_reads author is

slices_read : (author : Id) (texts : List (List ℕ)) → AllByRecursion IsSlice texts → slices_of (pack_fields author texts) ≡ Some texts
unfolding pack_fields slices_at
slices_read author texts all = elements_joined texts (all_values MOST_BRACKETS texts (omega arith) all)

member_utf8 : (name value : List ℕ) → IsUtf8 name → IsUtf8 value → IsUtf8 (member_text (named (name, value)))
member_utf8 name value name_utf8 utf8 = IsUtf8-append (quoted name) _ (IsUtf8-quoted name name_utf8) (IsUtf8-append (58 ∷ []) value (IsUtf8-are_ascii (58 ∷ []) refl) utf8)

pack_utf8 : (author : Id) (texts : List (List ℕ)) → AllByRecursion IsSlice texts → IsUtf8 (fields_text (pack_fields author texts))
unfolding pack_fields
pack_utf8 author texts all =
    let inner = text_of_operation (author_fields author) (id_writes author) in
    let one = member_utf8 (codes "author") _ ascii_author inner.utf8 in
    let two = member_utf8 (codes "ops") _ ascii_ops (array_utf8 texts all) in
    let rest = IsUtf8-append (44 ∷ []) _ (IsUtf8-are_ascii (44 ∷ []) refl) (IsUtf8-append _ [] two (IsUtf8-are_ascii [] refl)) in
    IsUtf8-append (123 ∷ []) _ (IsUtf8-are_ascii (123 ∷ []) refl) (IsUtf8-append _ (125 ∷ []) (IsUtf8-append _ _ one rest) (IsUtf8-are_ascii (125 ∷ []) refl))

fields_pack : (author : Id) (texts : List (List ℕ)) → IsId author → AllByRecursion IsSlice texts → IsPackText (fields_text (pack_fields author texts)) author texts
fields_pack author texts is all = record {
  utf8 = pack_utf8 author texts all;
  fields = pack_fields author texts;
  object = fields_read MOST_BRACKETS (pack_fields author texts) (omega arith) (pack_writes author texts all);
  author_is = author_reads author texts is;
  slices_are = slices_read author texts all;
}

-- ---- operations

module _ {Op State Row : Type 0} (k : Meaning Op State Row) (laws : KeepsLaws k) where
  written_slices : (ops : List Op) → AllByRecursion k.KeepsRules ops → AllByRecursion IsSlice (map k.written ops)
  written_slices [] all = tt
  written_slices (o ∷ os) all = let text = laws.is_text o all.0 in (record { utf8 = text.utf8; value = text.value }, written_slices os all.1)

  text_is : (author : Id) (ops : List Op) → IsBytes author.bytes → fields_text (pack_fields author (map k.written ops)) ≡ pack_text k author ops
  unfolding pack_text
  text_is author ops is = fields_are author (map k.written ops) is ∙ sym (text_joins (encode_lower author.bytes) (map k.written ops))

  -- What is written is a pack text with the written texts of the operations.
  pub written_parts : (author : Id) (ops : List Op) → IsId author → AllByRecursion k.KeepsRules ops → IsPackText (pack_text k author ops) author (map k.written ops)
  written_parts author ops is all = subst (λ text. IsPackText text author (map k.written ops)) (text_is author ops is.bytes) (fields_pack author (map k.written ops) is (written_slices ops all))

  keep : (head : TreeHead) (author : Id) (ops : List Op) → MayStand k head author ops → AllByRecursion k.KeepsRules ops
  keep head author [] may = tt
  keep head author (o ∷ os) may = (may.0.0, keep head author os may.1)

  ops_back : (head : TreeHead) (author : Id) (ops : List Op) → MayStand k head author ops → ops_at k head author (map k.written ops) ≡ Some (placed_ops k head author ops)
  ops_back head author [] may = refl
  ops_back head author (o ∷ os) may =
      ap (λ x. before x (ops_at k head author (map k.written os))) (laws.reads_back (place_of head author (k.written o)) o may.0.0 may.0.1)
      ∙ ap (before (Some (k.placed (place_of head author (k.written o)) o))) (ops_back head author os may.1)

  -- What is written of so many operations reads back.
  pub reads_back : (head : TreeHead) (author : Id) (ops : List Op) → IsId author → length ops ≤ MOST_OPERATIONS → MayStand k head author ops → pack_at k head (pack_text k author ops) ≡ Some (written_pack k head author ops)
  unfolding pack_at
  reads_back head author ops is few may =
      let text = pack_text k author ops in
      let texts = map k.written ops in
      let made = option_map (pack_with k head (hash_of text) author) (ops_at k head author texts) in
      ap (option_and_then (pack_of k head (hash_of text))) (parts_only text author texts (written_parts author ops is (keep head author ops may)))
      ∙ ap (λ n. if nat_le n MOST_OPERATIONS then made else None) (length-map ops k.written)
      ∙ ap (λ b. if b then made else None) (le-leb (length ops) MOST_OPERATIONS few)
      ∙ ap (option_map (pack_with k head (hash_of text) author)) (ops_back head author ops may)

  -- What is answered of such operations reads back.
  pub back_answer : (head : TreeHead) (author : Id) (ops : List Op) (r : Result PackText Memory) → IfOk r (λ written. written.text ≡ pack_text k author ops) → IfOk r (λ _. IsId author)
      → length ops ≤ MOST_OPERATIONS → MayStand k head author ops → IfOk r (λ written. pack_at k head written.text ≡ Some (written_pack k head author ops))
  back_answer head author ops (Ok written) made is few may = ap (pack_at k head) made ∙ reads_back head author ops is few may
  back_answer head author ops (Err e) made is few may = tt
