-- What pairs are written as reads back, and can be a member's value.
use Rattle.std.proofs.Common.{◌≡◌, ◌≤◌, refl, subst, sym, ℕ, List, [], ◌∷◌, Some, map, arith}
use Rattle.std.specs.Str.{IsUtf8}
use Rattle.std.specs.List.Sorted.{IsPermutation}
use Rattle.std.proofs.lemmas.List.Sorted.{IsPermutation-refl}
use Rattle.json_span.specs.declared.nest.TheConstants.{MOST_BRACKETS}
use Rattle.json_span.proofs.JoinLaws.{members_joined, object_value}
use Rattle.json_span.proofs.ValueLaws.{deeper}
use Rattle.op_kind.specs.Common.{metadata_at}
use Rattle.op_kind.specs.Metadata.{pairs_at}
use Rattle.op_kind.specs.Pairs.{AreInKeyOrder, EachPairUtf8, field_of, pairs_text, texts_of, both_of}
use Rattle.op_kind.specs.QuotedLaws.{quoted_reads}
use Rattle.op_kind.specs.Written.{named, IsWritable, EachWritable}
use Rattle.op_kind.specs.WritingLaws.{text_writable, each_member, fields_utf8}
use Rattle.op_kind.specs.declared.place.Pair.{Pair}
use Rattle.op_kind.proofs.PairLemmas.{pairs_only}

each_writable : (depth : ℕ) (ps : List Pair) → EachPairUtf8 ps → EachWritable depth (map field_of ps)
each_writable depth [] each = tt
each_writable depth (p ∷ ps) each = (text_writable depth p.key p.value each.0 each.1, each_writable depth ps each.2)

texts_back : (ps : List Pair) → EachPairUtf8 ps → map texts_of (map named (map field_of ps)) ≡ map both_of ps
texts_back [] each = refl
texts_back (p ∷ ps) each =
    let key = quoted_reads p.key each.0 in
    let value = quoted_reads p.value each.1 in
    let rest = texts_back ps each.2 in
    λ i. (key i, value i) ∷ rest i

-- Pairs that are written read back.
pub pairs_read : (ps : List Pair) → AreInKeyOrder ps → EachPairUtf8 ps → pairs_at (pairs_text ps) ≡ Some ps
pairs_read ps order each = pairs_only (pairs_text ps) ps (record {
  members = map named (map field_of ps);
  object = members_joined (map named (map field_of ps)) (each_member MOST_BRACKETS MOST_BRACKETS (map field_of ps) (omega arith) (each_writable MOST_BRACKETS ps each));
  same = subst (λ l. IsPermutation l (map both_of ps)) (sym (texts_back ps each)) (IsPermutation-refl (map both_of ps));
  ascending = order;
})

-- Metadata that is written reads back.
pub metadata_reads : (ps : List Pair) → AreInKeyOrder ps → EachPairUtf8 ps → metadata_at (pairs_text ps) ≡ Some ps
metadata_reads ps order each = pairs_read ps order each

-- Pairs are writable, with one bracket.
pub pairs_writable : (depth : ℕ) (name : List ℕ) (ps : List Pair) → 1 ≤ depth → IsUtf8 name → EachPairUtf8 ps → IsWritable depth (name, pairs_text ps)
pairs_writable depth name ps room utf8 each = record {
  name = utf8;
  utf8 = fields_utf8 0 (map field_of ps) (each_writable 0 ps each);
  value = deeper 1 depth (pairs_text ps) room (object_value 0 (map named (map field_of ps)) (each_member 0 0 (map field_of ps) (omega arith) (each_writable 0 ps each)));
}
