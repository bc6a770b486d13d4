-- The members of operations of bugs keep the laws of forms.
use Rattle.std.proofs.Common.{◌≡◌, ◌∙◌, ◌&&◌, ◌<◌, ◌^◌, refl, ap, subst, ℕ, Bool, true, List, [], ◌∷◌, map, codes, decimal, Option, Some, None, option_and_then, lit<, lit≤}
use Rattle.std.specs.Prelude.{nat_lt}
use Rattle.std.specs.Str.{IsUtf8, IsAscii}
use Rattle.std.proofs.lemmas.Bool.{and_parts, ltb-true}
use Rattle.std.proofs.lemmas.Str.{IsUtf8-nil, IsUtf8-from_ascii}
use Rattle.std.proofs.lemmas.Str.Ascii.{IsAscii-nil, IsAscii-cons}
use Rattle.hex.specs.Hex.{encode_lower, lower_digits}
use Rattle.hex.proofs.HexLemmas.{IsAscii-encode_with}
use Rattle.json.proofs.Printed.Utf8.{IsUtf8-are_ascii}
use Rattle.gb_text.specs.Digits.{name_of}
use Rattle.gb_text.specs.declared.id.Name.{Name}
use Rattle.gb_text.proofs.DigitLemmas.{name_of-encode_lower, name_of-is}
use Rattle.op_kind.specs.Forms.{texts_at}
use Rattle.op_kind.specs.OpText.{member_brackets}
use Rattle.op_kind.specs.ListLaws.{texts_read, texts_writable}
use Rattle.op_kind.specs.QuotedLaws.{quoted_reads}
use Rattle.op_kind.specs.WritingLaws.{text_writable, decimal_writable, decimal_reads, id_reads, id_writable}
use Rattle.op_kind.specs.Written.{EachUtf8}
use Rattle.op_kind.proofs.PairLemmas.{pairs_ascending}
use Rattle.op_kind.proofs.PairTexts.{pairs_read, pairs_writable}
use Rattle.op_kind.proofs.ReadLaws.{text_is_utf8, texts_are_utf8, id_is_one, pairs_are_utf8}
use Rattle.bug_ops.specs.BugForms.{status_of, status_number, status_at, with_name, names_of, digits_of, AreLabels, AreNames, title_form, was_form, message_form, files_form, status_form, labels_form, added_form, removed_form, target_form, pairs_form}
use Rattle.bug_ops.specs.BugTable.{shape_of}
use Rattle.op_kind.specs.FormLaws.{IsForm, AreForms}
use Rattle.bug_ops.specs.declared.op.BugStatus.{BugStatus}
use Rattle.bug_ops.specs.declared.op.BugStatus.TheVariants.{Opened, Closed}
use Rattle.bug_ops.specs.declared.op.OpType.{OpType}
use Rattle.bug_ops.specs.declared.op.OpType.TheVariants.{Creation, Title, Comment, Status, Labels, Edit, Nothing, Metadata}

-- ---- object names

-- each byte is below 128
abbrev are_low : List ℕ → Bool
are_low [] = true
are_low (b ∷ bs) = nat_lt b 128 && are_low bs

low_is_ascii : (bs : List ℕ) → are_low bs ≡ true → IsAscii bs
low_is_ascii [] h = IsAscii-nil
low_is_ascii (b ∷ bs) h = let both = and_parts (nat_lt b 128) (are_low bs) h in IsAscii-cons b bs (ltb-true b 128 both.0) (low_is_ascii bs both.1)

-- The digits of some bytes are UTF-8.
pub digits_are_utf8 : (bytes : List ℕ) → IsUtf8 (encode_lower bytes)
digits_are_utf8 bytes = IsUtf8-from_ascii _ (IsAscii-encode_with lower_digits bytes (low_is_ascii lower_digits refl))

digits_utf8 : (ns : List Name) → EachUtf8 (map digits_of ns)
digits_utf8 [] = tt
digits_utf8 (n ∷ ns) = (digits_are_utf8 n.bytes, digits_utf8 ns)

names_back : (ns : List Name) → AreNames ns → names_of (map digits_of ns) ≡ Some ns
names_back [] are = refl
names_back (n ∷ ns) are =
    ap (λ o. with_name o (names_of (map digits_of ns))) (name_of-encode_lower n are.0)
    ∙ ap (with_name (Some n)) (names_back ns are.1)

name_some : (a : Option Name) (b : Option (List Name)) (ns : List Name) → with_name a b ≡ Some ns
    → (n : Name) × (rest : List Name) × (a ≡ Some n) × (b ≡ Some rest) × (n ∷ rest ≡ ns)
name_some None b ns h = absurd (cc (h))
name_some (Some n) None ns h = absurd (cc (h))
name_some (Some n) (Some rest) ns h = (n, rest, refl, refl, cc (h))

names_are : (ts : List (List ℕ)) (ns : List Name) → names_of ts ≡ Some ns → AreNames ns
names_are [] ns h = let e : [] ≡ ns = cc (h) in subst AreNames e tt
names_are (t ∷ ts) ns h =
    let s = name_some (name_of t) (names_of ts) ns h in
    subst AreNames s.4 ((name_of-is t s.0 s.2).0, names_are ts s.1 s.3)

names_read_are : (o : Option (List (List ℕ))) (ns : List Name) → option_and_then names_of o ≡ Some ns → AreNames ns
names_read_are None ns h = absurd (cc (h))
names_read_are (Some ts) ns h = names_are ts ns h

-- ---- the members

pub title_keeps : IsForm title_form
title_keeps = record {
  reads = λ t can. quoted_reads t can.utf8;
  obeys = λ t can. can.title;
  writable = λ t can. text_writable member_brackets (codes "title") t (IsUtf8-are_ascii (codes "title") refl) can.utf8;
  can_be = λ v t h obeys. record { utf8 = text_is_utf8 v t h; title = obeys };
  absent = λ t h. absurd (cc (h));
}

pub was_keeps : IsForm was_form
was_keeps = record {
  reads = λ t can. quoted_reads t can;
  obeys = λ t can. refl;
  writable = λ t can. text_writable member_brackets (codes "was") t (IsUtf8-are_ascii (codes "was") refl) can;
  can_be = λ v t h obeys. text_is_utf8 v t h;
  absent = λ t h. let e : [] ≡ t = cc (h) in subst IsUtf8 e IsUtf8-nil;
}

pub message_keeps : IsForm message_form
message_keeps = record {
  reads = λ t can. quoted_reads t can.utf8;
  obeys = λ t can. can.message;
  writable = λ t can. text_writable member_brackets (codes "message") t (IsUtf8-are_ascii (codes "message") refl) can.utf8;
  can_be = λ v t h obeys. record { utf8 = text_is_utf8 v t h; message = obeys };
  absent = λ t h. absurd (cc (h));
}

pub files_keep : IsForm files_form
files_keep = record {
  reads = λ ns can. ap (option_and_then names_of) (texts_read (map digits_of ns) (digits_utf8 ns)) ∙ names_back ns can;
  obeys = λ ns can. refl;
  writable = λ ns can. texts_writable member_brackets (codes "files") (map digits_of ns) (lit≤ tt) (IsUtf8-are_ascii (codes "files") refl) (digits_utf8 ns);
  can_be = λ v ns h obeys. names_read_are (texts_at v) ns h;
  absent = λ ns h. let e : [] ≡ ns = cc (h) in subst AreNames e tt;
}

status_reads : (s : BugStatus) → status_at (decimal (status_number s)) ≡ Some s
status_reads Opened = ap (option_and_then status_of) (decimal_reads 1 (lit< tt))
status_reads Closed = ap (option_and_then status_of) (decimal_reads 2 (lit< tt))

status_small : (s : BugStatus) → status_number s < 2 ^ 64
status_small Opened = lit< tt
status_small Closed = lit< tt

pub status_keeps : IsForm status_form
status_keeps = record {
  reads = λ s can. status_reads s;
  obeys = λ s can. refl;
  writable = λ s can. decimal_writable member_brackets (codes "status") (status_number s) (IsUtf8-are_ascii (codes "status") refl) (status_small s);
  can_be = λ v s h obeys. tt;
  absent = λ s h. tt;
}

labels_keep : (name : List ℕ) (number : ℕ) → IsUtf8 name → IsForm (labels_form name number)
labels_keep name number utf8 = record {
  reads = λ ts can. texts_read ts can.utf8;
  obeys = λ ts can. can.labels;
  writable = λ ts can. texts_writable member_brackets name ts (lit≤ tt) utf8 can.utf8;
  can_be = λ v ts h obeys. record { utf8 = texts_are_utf8 v ts h; labels = obeys };
  absent = λ ts h. let e : [] ≡ ts = cc (h) in subst AreLabels e (record { utf8 = tt; labels = refl });
}

pub added_keep : IsForm added_form
added_keep = labels_keep (codes "added") 10 (IsUtf8-are_ascii (codes "added") refl)

pub removed_keep : IsForm removed_form
removed_keep = labels_keep (codes "removed") 11 (IsUtf8-are_ascii (codes "removed") refl)

pub target_keeps : IsForm target_form
target_keeps = record {
  reads = λ id can. id_reads id can;
  obeys = λ id can. refl;
  writable = λ id can. id_writable member_brackets (codes "target") id (IsUtf8-are_ascii (codes "target") refl);
  can_be = λ v id h obeys. id_is_one v id h;
  absent = λ id h. absurd (cc (h));
}

pub pairs_keep : IsForm pairs_form
pairs_keep = record {
  reads = λ ps can. pairs_read ps can.order can.texts;
  obeys = λ ps can. refl;
  writable = λ ps can. pairs_writable member_brackets (codes "new_metadata") ps (lit≤ tt) (IsUtf8-are_ascii (codes "new_metadata") refl) can.texts;
  can_be = λ v ps h obeys. record { order = pairs_ascending v ps h; texts = pairs_are_utf8 v ps h };
  absent = λ ps h. absurd (cc (h));
}

-- The members of each type keep their laws.
pub types_keep : (t : OpType) → AreForms (shape_of t)
types_keep Creation = (title_keeps, (message_keeps, (files_keep, tt)))
types_keep Title = (title_keeps, (was_keeps, tt))
types_keep Comment = (message_keeps, (files_keep, tt))
types_keep Status = (status_keeps, tt)
types_keep Labels = (added_keep, (removed_keep, tt))
types_keep Edit = (target_keeps, (message_keeps, (files_keep, tt)))
types_keep Nothing = tt
types_keep Metadata = (target_keeps, (pairs_keep, tt))
