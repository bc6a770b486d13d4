-- What is written of a row's lists reads as the lists, and lists that are read satisfy their rules.
use Rattle.std.proofs.Common.{◌≡◌, ◌∙◌, ◌++◌, refl, sym, ap, subst, ℕ, List, [], ◌∷◌, map, Bool, true, false, Option, None, Some, append_assoc, append-nil, arith}
use Rattle.std.specs.Prelude.{codes, option_and_then, if◌then◌else◌}
use Rattle.std.specs.Cmp.Lexicographic.{nat_list_cmp_total, slice_cmp}
use Rattle.std.specs.List.{AllByRecursion}
use Rattle.std.specs.List.Sorted.{IsStrictlySortedBy}
use Rattle.std.specs.Ordering.{is_lt, nat_cmp}
use Rattle.std.specs.Str.{IsUtf8, bytes_eq}
use Rattle.std.specs.declared.cmp.Ordering.{Ordering}
use Rattle.std.specs.declared.cmp.Ordering.TheVariants.{Less, Equal, Greater}
use Rattle.std.proofs.lemmas.Bool.{and_from, and_parts}
use Rattle.gb_text.specs.Digits.{id_of}
use Rattle.gb_text.specs.declared.id.Id.{Id}
use Rattle.gb_text.proofs.AsciiLemmas.{encode_lower-utf8}
use Rattle.gb_text.proofs.DigitLemmas.{id_of-encode_lower, id_of-is}
use Rattle.json_span.specs.Parts.{members_of}
use Rattle.json_span.specs.declared.nest.TheConstants.{MOST_BRACKETS}
use Rattle.json_span.proofs.BasicLaws.{then_some}
use Rattle.json_span.proofs.JoinLaws.{members_joined}
use Rattle.op_kind.specs.Forms.{texts_at}
use Rattle.op_kind.specs.ListLaws.{texts_read}
use Rattle.op_kind.specs.Members.{text_at}
use Rattle.op_kind.specs.Pairs.{AreInKeyOrder, EachPairUtf8, field_of, pairs_text}
use Rattle.op_kind.specs.QuotedLaws.{quoted_reads}
use Rattle.op_kind.specs.Written.{EachUtf8, EachWritable, named, texts_text}
use Rattle.op_kind.specs.WritingLaws.{each_member, text_writable}
use Rattle.op_kind.specs.declared.place.Pair.{Pair}
use Rattle.op_kind.proofs.ReadLaws.{text_is_utf8, texts_are_utf8}
use Rattle.row_text.specs.Lists.{array_at, ascend, ascend_from, digits_of, ids_at, ids_of, keys_of, pair_with, pairs_at, pairs_from, with_id}
use Rattle.row_text.specs.RowForms.{AreIds, ids_text}

-- ---- lists of texts

-- a list of texts reads as the texts
pub array_read : (ts : List (List ℕ)) → EachUtf8 ts → array_at (texts_text ts) ≡ Some ts
array_read ts each = texts_read ts each

not_null : (null : Bool) (o : Option (List (List ℕ))) (ts : List (List ℕ)) → (if null then None else o) ≡ Some ts → o ≡ Some ts
not_null true o ts h = absurd (cc (h))
not_null false o ts h = h

-- texts that are read are UTF-8
pub array_is_utf8 : (value : List ℕ) (ts : List (List ℕ)) → array_at value ≡ Some ts → EachUtf8 ts
array_is_utf8 value ts h = texts_are_utf8 value ts (not_null (bytes_eq value (codes "null")) (texts_at value) ts h)

-- ---- lists of ids

pub digits_utf8 : (ids : List Id) → EachUtf8 (map digits_of ids)
digits_utf8 [] = tt
digits_utf8 (id ∷ ids) = (encode_lower-utf8 id.bytes, digits_utf8 ids)

ids_back : (ids : List Id) → AreIds ids → ids_of (map digits_of ids) ≡ Some ids
ids_back [] are = refl
ids_back (id ∷ ids) are =
    ap (λ o. with_id o (ids_of (map digits_of ids))) (id_of-encode_lower id are.0)
    ∙ ap (with_id (Some id)) (ids_back ids are.1)

-- a list of ids reads as the ids
pub ids_read : (ids : List Id) → AreIds ids → ids_at (ids_text ids) ≡ Some ids
ids_read ids are = ap (option_and_then ids_of) (array_read (map digits_of ids) (digits_utf8 ids)) ∙ ids_back ids are

id_some : (a : Option Id) (b : Option (List Id)) (ids : List Id) → with_id a b ≡ Some ids
    → (id : Id) × (rest : List Id) × (a ≡ Some id) × (b ≡ Some rest) × (id ∷ rest ≡ ids)
id_some None b ids h = absurd (cc (h))
id_some (Some id) None ids h = absurd (cc (h))
id_some (Some id) (Some rest) ids h = (id, rest, refl, refl, cc (h))

ids_are : (ts : List (List ℕ)) (ids : List Id) → ids_of ts ≡ Some ids → AreIds ids
ids_are [] ids h = let e : [] ≡ ids = cc (h) in subst AreIds e tt
ids_are (t ∷ ts) ids h =
    let s = id_some (id_of t) (ids_of ts) ids h in
    subst AreIds s.4 ((id_of-is t s.0 s.2).0, ids_are ts s.1 s.3)

-- ids that are read are ids
pub ids_read_are : (value : List ℕ) (ids : List Id) → ids_at value ≡ Some ids → AreIds ids
ids_read_are value ids h = let s = then_some ids_of (array_at value) ids h in ids_are s.0 ids s.2

-- ---- pairs

each_writable : (depth : ℕ) (ps : List Pair) → EachPairUtf8 ps → EachWritable depth (map field_of ps)
each_writable depth [] each = tt
each_writable depth (p ∷ ps) each = (text_writable depth p.key p.value each.0 each.1, each_writable depth ps each.2)

all_pairs : (before ps : List Pair) → EachPairUtf8 ps → pairs_from before (map named (map field_of ps)) ≡ Some (before ++ ps)
all_pairs before [] each = ap Some (sym (append-nil before))
all_pairs before (p ∷ ps) each =
    let more : Pair → Option (List Pair) = λ q. pairs_from (before ++ q ∷ []) (map named (map field_of ps)) in
    ap (λ o. option_and_then more (pair_with o (text_at (named (field_of p)).1))) (quoted_reads p.key each.0)
    ∙ ap (λ o. option_and_then more (pair_with (Some p.key) o)) (quoted_reads p.value each.1)
    ∙ all_pairs (before ++ p ∷ []) ps each.2
    ∙ ap Some (append_assoc before (p ∷ []) ps)

-- pairs read as they were written
pub listed_pairs_read : (ps : List Pair) → EachPairUtf8 ps → pairs_at (pairs_text ps) ≡ Some ps
listed_pairs_read ps each =
    ap (option_and_then (pairs_from [])) (members_joined (map named (map field_of ps)) (each_member MOST_BRACKETS MOST_BRACKETS (map field_of ps) (omega arith) (each_writable MOST_BRACKETS ps each)))
    ∙ all_pairs [] ps each

each_more : (ps : List Pair) (p : Pair) → EachPairUtf8 ps → IsUtf8 p.key → IsUtf8 p.value → EachPairUtf8 (ps ++ p ∷ [])
each_more [] p each key value = (key, value, tt)
each_more (q ∷ ps) p each key value = (each.0, each.1, each_more ps p each.2 key value)

pair_some : (a b : Option (List ℕ)) (p : Pair) → pair_with a b ≡ Some p → (a ≡ Some p.key) × (b ≡ Some p.value)
pair_some None b p h = absurd (cc (h))
pair_some (Some key) None p h = absurd (cc (h))
pair_some (Some key) (Some value) p h =
    let e : record { key = key; value = value } ≡ p = cc (h) in
    (ap (λ (q : Pair). Some q.key) e, ap (λ (q : Pair). Some q.value) e)

each_from : (before : List Pair) (ms : List (List ℕ × List ℕ)) (ps : List Pair) → EachPairUtf8 before → pairs_from before ms ≡ Some ps → EachPairUtf8 ps
each_from before [] ps each h = let e : before ≡ ps = cc (h) in subst EachPairUtf8 e each
each_from before (m ∷ ms) ps each h =
    let s = then_some (λ p. pairs_from (before ++ p ∷ []) ms) (pair_with (text_at m.0) (text_at m.1)) ps h in
    let both = pair_some (text_at m.0) (text_at m.1) s.0 s.1 in
    each_from (before ++ s.0 ∷ []) ms ps (each_more before s.0 each (text_is_utf8 m.0 s.0.key both.0) (text_is_utf8 m.1 s.0.value both.1)) s.2

-- pairs that are read are UTF-8
pub listed_pairs_utf8 : (value : List ℕ) (ps : List Pair) → pairs_at value ≡ Some ps → EachPairUtf8 ps
listed_pairs_utf8 value ps h = let s = then_some (pairs_from []) (members_of value) ps h in each_from [] s.0 ps tt s.2

-- ---- order

is_less : (o : Ordering) → is_lt o ≡ true → o ≡ Less
is_less Less h = refl
is_less Equal h = absurd (cc (h))
is_less Greater h = absurd (cc (h))

module _ {A : Type 0} (key : A → List ℕ) where
  -- two items by their keys
  abbrev by_keys : A → A → Ordering
  by_keys x y = slice_cmp nat_cmp (key x) (key y)

  above_all : (x y : A) (ys : List A) → by_keys x y ≡ Less → AllByRecursion (λ z. by_keys y z ≡ Less) ys → AllByRecursion (λ z. by_keys x z ≡ Less) ys
  above_all x y [] less all = tt
  above_all x y (z ∷ zs) less all = (nat_list_cmp_total.trans (key x) (key y) (key z) less all.0, above_all x y zs less all.1)

  sorted_from : (x : A) (xs : List A) → ascend_from (key x) (map key xs) ≡ true → IsStrictlySortedBy by_keys (x ∷ xs)
  unfolding IsStrictlySortedBy
  sorted_from x [] h = (tt, tt)
  sorted_from x (y ∷ ys) h =
      let both = and_parts (is_lt (by_keys x y)) (ascend_from (key y) (map key ys)) h in
      let rest = sorted_from y ys both.1 in
      let less = is_less (by_keys x y) both.0 in
      ((less, above_all x y ys less rest.0), rest)

  -- items whose keys each come before the next are sorted
  sorted_by_test : (xs : List A) → ascend (map key xs) ≡ true → IsStrictlySortedBy by_keys xs
  unfolding IsStrictlySortedBy
  sorted_by_test [] h = tt
  sorted_by_test (x ∷ xs) h = sorted_from x xs h

  test_from : (x : A) (xs : List A) → IsStrictlySortedBy by_keys (x ∷ xs) → ascend_from (key x) (map key xs) ≡ true
  unfolding IsStrictlySortedBy
  test_from x [] sorted = refl
  test_from x (y ∷ ys) sorted =
      and_from (is_lt (by_keys x y)) (ascend_from (key y) (map key ys)) (ap is_lt sorted.0.0) (test_from y ys sorted.1)

  -- and the other way round
  test_by_sorted : (xs : List A) → IsStrictlySortedBy by_keys xs → ascend (map key xs) ≡ true
  test_by_sorted [] sorted = refl
  test_by_sorted (x ∷ xs) sorted = test_from x xs sorted

each_itself : (ts : List (List ℕ)) → map (λ t. t) ts ≡ ts
each_itself [] = refl
each_itself (t ∷ ts) = ap (λ (us : List (List ℕ)). t ∷ us) (each_itself ts)

-- texts that pass the test ascend
pub texts_sorted : (ts : List (List ℕ)) → ascend ts ≡ true → IsStrictlySortedBy (slice_cmp nat_cmp) ts
texts_sorted ts h = sorted_by_test (λ (t : List ℕ). t) ts (ap ascend (each_itself ts) ∙ h)

-- and texts that ascend pass it
pub texts_ascend : (ts : List (List ℕ)) → IsStrictlySortedBy (slice_cmp nat_cmp) ts → ascend ts ≡ true
texts_ascend ts sorted = ap ascend (sym (each_itself ts)) ∙ test_by_sorted (λ (t : List ℕ). t) ts sorted

-- the same of pairs by their keys
pub pairs_sorted : (ps : List Pair) → ascend (keys_of ps) ≡ true → AreInKeyOrder ps
pairs_sorted ps h = sorted_by_test (λ (p : Pair). p.key) ps h

pub pairs_ascend : (ps : List Pair) → AreInKeyOrder ps → ascend (keys_of ps) ≡ true
pairs_ascend ps sorted = test_by_sorted (λ (p : Pair). p.key) ps sorted
