-- The members of a row satisfy the laws of forms.
use Rattle.std.proofs.Common.{◌≡◌, ◌∙◌, refl, ap, ℕ, List, map, codes, Some, lit<, lit≤, arith}
use Rattle.std.specs.Prelude.{option_and_then}
use Rattle.std.specs.List.{list_all}
use Rattle.std.specs.Str.{IsUtf8}
use Rattle.std.proofs.lemmas.Bool.{and_from, and_parts}
use Rattle.hex.specs.Hex.{encode_lower}
use Rattle.json.proofs.Printed.Utf8.{IsUtf8-are_ascii}
use Rattle.gb_text.specs.Digits.{IsName, name_of}
use Rattle.gb_text.specs.Rules.{is_title_text}
use Rattle.gb_text.specs.declared.id.Name.{Name}
use Rattle.gb_text.proofs.AsciiLemmas.{encode_lower-utf8}
use Rattle.gb_text.proofs.DigitLemmas.{name_of-encode_lower, name_of-is}
use Rattle.json_span.proofs.BasicLaws.{then_some}
use Rattle.op_kind.specs.FormLaws.{IsForm, AreForms}
use Rattle.op_kind.specs.ListLaws.{texts_writable}
use Rattle.op_kind.specs.Members.{text_at}
use Rattle.op_kind.specs.OpText.{member_brackets}
use Rattle.op_kind.specs.QuotedLaws.{quoted_reads}
use Rattle.op_kind.specs.WritingLaws.{decimal_reads, decimal_writable, id_reads, id_writable, text_writable, time_reads}
use Rattle.op_kind.proofs.PairTexts.{pairs_writable}
use Rattle.op_kind.proofs.ReadLaws.{id_is_one, time_is_low}
use Rattle.bug_ops.specs.FormsKeep.{status_keeps, title_keeps}
use Rattle.row_text.specs.Lists.{ascend, digits_of}
use Rattle.row_text.specs.ListsKeep.{array_is_utf8, array_read, digits_utf8, ids_read, ids_read_are, listed_pairs_read, listed_pairs_utf8, pairs_ascend, pairs_sorted, texts_ascend, texts_sorted}
use Rattle.row_text.specs.RowForms.{head_at, head_form, id_form, ids_form, labels_form, metadata_form, number_form, version_form, version_of}
use Rattle.row_text.specs.Rows.{bug_shape, numbers_shape, people_shape, texts_shape}

ids_keep : (name : List ℕ) → IsUtf8 name → IsForm (ids_form name)
ids_keep name utf8 = record {
  reads = λ ids can. ids_read ids can;
  obeys = λ ids can. refl;
  writable = λ ids can. texts_writable member_brackets name (map digits_of ids) (lit≤ tt) utf8 (digits_utf8 ids);
  can_be = λ v ids h obeys. ids_read_are v ids h;
  absent = λ ids h. absurd (cc (h));
}

id_keeps : (name : List ℕ) → IsUtf8 name → IsForm (id_form name)
id_keeps name utf8 = record {
  reads = λ id can. id_reads id can;
  obeys = λ id can. refl;
  writable = λ id can. id_writable member_brackets name id utf8;
  can_be = λ v id h obeys. id_is_one v id h;
  absent = λ id h. absurd (cc (h));
}

number_keeps : (name : List ℕ) → IsUtf8 name → IsForm (number_form name)
number_keeps name utf8 = record {
  reads = λ n can. time_reads n can;
  obeys = λ n can. refl;
  writable = λ n can. decimal_writable member_brackets name n utf8 (omega arith);
  can_be = λ v n h obeys. time_is_low v n h;
  absent = λ n h. absurd (cc (h));
}

head_is_one : (value : List ℕ) (head : Name) → head_at value ≡ Some head → IsName head
head_is_one value head h = let s = then_some name_of (text_at value) head h in (name_of-is s.0 head s.2).0

head_keeps : IsForm head_form
head_keeps = record {
  reads = λ head can. ap (option_and_then name_of) (quoted_reads (encode_lower head.bytes) (encode_lower-utf8 head.bytes)) ∙ name_of-encode_lower head can;
  obeys = λ head can. refl;
  writable = λ head can. text_writable member_brackets (codes "head") (encode_lower head.bytes) (IsUtf8-are_ascii (codes "head") refl) (encode_lower-utf8 head.bytes);
  can_be = λ v head h obeys. head_is_one v head h;
  absent = λ head h. absurd (cc (h));
}

labels_keep : IsForm labels_form
labels_keep = record {
  reads = λ ts can. array_read ts can.each.utf8;
  obeys = λ ts can. and_from (list_all is_title_text ts) (ascend ts) can.each.labels (texts_ascend ts can.order);
  writable = λ ts can. texts_writable member_brackets (codes "labels") ts (lit≤ tt) (IsUtf8-are_ascii (codes "labels") refl) can.each.utf8;
  can_be = λ v ts h obeys.
      let both = and_parts (list_all is_title_text ts) (ascend ts) obeys in
      record { each = record { utf8 = array_is_utf8 v ts h; labels = both.0 }; order = texts_sorted ts both.1 };
  absent = λ ts h. absurd (cc (h));
}

metadata_keeps : IsForm metadata_form
metadata_keeps = record {
  reads = λ ps can. listed_pairs_read ps can.texts;
  obeys = λ ps can. pairs_ascend ps can.order;
  writable = λ ps can. pairs_writable member_brackets (codes "metadata") ps (lit≤ tt) (IsUtf8-are_ascii (codes "metadata") refl) can.texts;
  can_be = λ v ps h obeys. record { order = pairs_sorted ps obeys; texts = listed_pairs_utf8 v ps h };
  absent = λ ps h. absurd (cc (h));
}

version_keeps : IsForm version_form
version_keeps = record {
  reads = λ version can. ap (option_and_then version_of) (decimal_reads 1 (lit< tt));
  obeys = λ version can. refl;
  writable = λ version can. decimal_writable member_brackets (codes "row") 1 (IsUtf8-are_ascii (codes "row") refl) (lit< tt);
  can_be = λ v version h obeys. tt;
  absent = λ version h. absurd (cc (h));
}

-- the members of each part
pub bug_keeps : AreForms bug_shape
bug_keeps = (version_keeps, (id_keeps (codes "id") (IsUtf8-are_ascii (codes "id") refl), (head_keeps, tt)))

pub people_keep : AreForms people_shape
people_keep = (
  id_keeps (codes "author") (IsUtf8-are_ascii (codes "author") refl),
  (ids_keep (codes "actors") (IsUtf8-are_ascii (codes "actors") refl), (ids_keep (codes "participants") (IsUtf8-are_ascii (codes "participants") refl), tt)),
)

pub numbers_keep : AreForms numbers_shape
numbers_keep = (
  number_keeps (codes "create") (IsUtf8-are_ascii (codes "create") refl),
  (
    number_keeps (codes "edit") (IsUtf8-are_ascii (codes "edit") refl),
    (
      number_keeps (codes "first") (IsUtf8-are_ascii (codes "first") refl),
      (
        number_keeps (codes "last") (IsUtf8-are_ascii (codes "last") refl),
        (number_keeps (codes "comments") (IsUtf8-are_ascii (codes "comments") refl), tt),
      ),
    ),
  ),
)

pub texts_keep : AreForms texts_shape
texts_keep = (title_keeps, (status_keeps, (labels_keep, (metadata_keeps, tt))))
