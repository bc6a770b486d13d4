-- What values that read are like, so that they can be written again.
use Rattle.std.proofs.Common.{◌≡◌, ◌≤◌, ◌<◌, ◌^◌, ◌-◌, ◌++◌, refl, subst, ℕ, List, [], ◌∷◌, Bool, true, false, Option, None, Some, map, leb-true}
use Rattle.std.specs.Prelude.{option_and_then, All, IfSome, nat_le, codes, if◌then◌else◌}
use Rattle.std.specs.Str.{IsUtf8, is_utf8, bytes_eq}
use Rattle.std.proofs.lemmas.Str.{IsUtf8-from_is_utf8}
use Rattle.std.proofs.lemmas.List.Elements.{All-nil, All-cons, All-head, All-tail}
use Rattle.std.proofs.lemmas.List.Sorted.{All-permutation}
use Rattle.serde_json.specs.Find.{as_str}
use Rattle.serde_json.specs.Read.{read}
use Rattle.gb_text.specs.Decimal.{decimal_of}
use Rattle.gb_text.specs.declared.decimal.TheConstants.{GREATEST_TIME}
use Rattle.gb_text.specs.Digits.{IsId, id_of}
use Rattle.gb_text.specs.declared.id.Id.{Id}
use Rattle.gb_text.proofs.DecimalLemmas.{decimal_of-is}
use Rattle.gb_text.proofs.DigitLemmas.{id_of-is}
use Rattle.json_span.specs.Parts.{elements_of}
use Rattle.op_kind.specs.Bounds.{IsWithinBounds}
use Rattle.op_kind.specs.Common.{within_limit, time_at, nonce_in, metadata_at, kind_of, time_of, nonce_of, metadata_of, all_four, parts_of, Parts, at_place, common_of, common_at}
use Rattle.json_span.proofs.BasicLaws.{map_some, then_some}
use Rattle.op_kind.specs.Forms.{id_at, texts_from, elements_at, texts_at}
use Rattle.op_kind.specs.Members.{Fields, utf8_only, text_at, fields_at, values_of, only_value, value_or}
use Rattle.op_kind.specs.Metadata.{pairs_at}
use Rattle.op_kind.specs.Nonces.{IsNonce, nonce_at}
use Rattle.op_kind.specs.NonceLaws.{nonce_is}
use Rattle.op_kind.specs.Pairs.{AreInKeyOrder, EachPairUtf8, texts_of, both_of}
use Rattle.op_kind.specs.Written.{EachUtf8}
use Rattle.op_kind.specs.declared.place.Place.{Place}
use Rattle.op_kind.specs.declared.place.Common.{Common}
use Rattle.op_kind.specs.declared.place.Pair.{Pair}
use Rattle.op_kind.proofs.PairLemmas.{pairs_found, null_or_read, none_in_order, metadata_ascends}

-- ---- texts

only_utf8 : (u t : List ℕ) (b : Bool) → is_utf8 u ≡ b → (if b then Some u else None) ≡ Some t → IsUtf8 t
only_utf8 u t true is h = let e : u ≡ t = cc (h) in subst IsUtf8 e (IsUtf8-from_is_utf8 u is)
only_utf8 u t false is h = absurd (cc (h))

checked_utf8 : (json : Bool) (o : Option (List ℕ)) (t : List ℕ) → (if json then option_and_then utf8_only o else None) ≡ Some t → IsUtf8 t
checked_utf8 true o t h = let s = then_some utf8_only o t h in only_utf8 s.0 t (is_utf8 s.0) refl s.2
checked_utf8 false o t h = absurd (cc (h))

-- A text that is read is UTF-8.
pub text_is_utf8 : (json t : List ℕ) → text_at json ≡ Some t → IsUtf8 t
unfolding text_at
text_is_utf8 json t h = checked_utf8 (is_utf8 json) (option_and_then as_str (read json)) t h

-- ---- numbers, nonces and ids

-- A decimal that is read is below 2^64.
pub decimal_is_below : (json : List ℕ) (n : ℕ) → decimal_of json ≡ Some n → n < 2 ^ 64
decimal_is_below json n h = let is = decimal_of-is json n h in is.below

limited : (m n : ℕ) (b : Bool) → nat_le m GREATEST_TIME ≡ b → (if b then Some m else None) ≡ Some n → n ≤ GREATEST_TIME
limited m n true is h = let e : m ≡ n = cc (h) in subst (λ x. x ≤ GREATEST_TIME) e (leb-true m GREATEST_TIME is)
limited m n false is h = absurd (cc (h))

-- A time that is read is within the limit.
pub time_is_low : (json : List ℕ) (n : ℕ) → time_at json ≡ Some n → n ≤ GREATEST_TIME
time_is_low json n h = let s = then_some within_limit (decimal_of json) n h in limited s.0 n _ refl s.2

-- A nonce that is read is one.
pub nonce_is_one : (json n : List ℕ) → nonce_in json ≡ Some n → IsNonce n
nonce_is_one json n h = let s = then_some nonce_at (text_at json) n h in nonce_is s.0 n s.2

-- An id that is read has 32 bytes.
pub id_is_one : (json : List ℕ) (id : Id) → id_at json ≡ Some id → IsId id
id_is_one json id h = let s = then_some id_of (text_at json) id h in (id_of-is s.0 id s.2).0

-- ---- lists of texts

each_more : (ts : List (List ℕ)) (t : List ℕ) → EachUtf8 ts → IsUtf8 t → EachUtf8 (ts ++ t ∷ [])
each_more [] t each utf8 = (utf8, tt)
each_more (u ∷ ts) t each utf8 = (each.0, each_more ts t each.1 utf8)

each_from : (before vs ts : List (List ℕ)) → EachUtf8 before → texts_from before vs ≡ Some ts → EachUtf8 ts
each_from before [] ts each h = let e : before ≡ ts = cc (h) in subst EachUtf8 e each
each_from before (v ∷ vs) ts each h =
    let s = then_some (λ t. texts_from (before ++ t ∷ []) vs) (text_at v) ts h in
    each_from (before ++ s.0 ∷ []) vs ts (each_more before s.0 each (text_is_utf8 v s.0 s.1)) s.2

elements_are_utf8 : (json : List ℕ) (ts : List (List ℕ)) → elements_at json ≡ Some ts → EachUtf8 ts
unfolding elements_at
elements_are_utf8 json ts h = let s = then_some (texts_from []) (elements_of json) ts h in each_from [] s.0 ts tt s.2

-- Texts that are read are UTF-8.
pub texts_are_utf8 : (json : List ℕ) (ts : List (List ℕ)) → texts_at json ≡ Some ts → EachUtf8 ts
texts_are_utf8 json ts h = null_or_read EachUtf8 (elements_at json) (bytes_eq json (codes "null")) ts tt (elements_are_utf8 json) h

-- ---- pairs

-- each text that is there is UTF-8
abbrev BothUtf8 : Option (List ℕ) × Option (List ℕ) → Type 0
BothUtf8 x = IfSome x.0 IsUtf8 × IfSome x.1 IsUtf8

if_read : (json : List ℕ) (o : Option (List ℕ)) → text_at json ≡ o → IfSome o IsUtf8
if_read json None h = tt
if_read json (Some t) h = text_is_utf8 json t h

members_utf8 : (ms : List (List ℕ × List ℕ)) → All BothUtf8 (map texts_of ms)
members_utf8 [] = All-nil BothUtf8
members_utf8 (m ∷ ms) = All-cons BothUtf8 (texts_of m) (map texts_of ms) (if_read m.0 _ refl, if_read m.1 _ refl) (members_utf8 ms)

each_pair : (ps : List Pair) → All BothUtf8 (map both_of ps) → EachPairUtf8 ps
each_pair [] all = tt
each_pair (p ∷ ps) all =
    let first = All-head BothUtf8 (both_of p) (map both_of ps) all in
    (first.0, first.1, each_pair ps (All-tail BothUtf8 (both_of p) (map both_of ps) all))

-- Pairs that are read are UTF-8.
pub pairs_are_utf8 : (json : List ℕ) (ps : List Pair) → pairs_at json ≡ Some ps → EachPairUtf8 ps
pairs_are_utf8 json ps h =
    let is = pairs_found json ps h in
    each_pair ps (All-permutation BothUtf8 _ _ is.same (members_utf8 is.members))

-- Metadata that is read is UTF-8.
pub metadata_is_utf8 : (json : List ℕ) (ps : List Pair) → metadata_at json ≡ Some ps → EachPairUtf8 ps
metadata_is_utf8 json ps h = null_or_read EachPairUtf8 (pairs_at json) (bytes_eq json (codes "null")) ps tt (pairs_are_utf8 json) h

-- ---- common parts

the_value : {A : Type 0} (read : List ℕ → Option A) (P : A → Type 0) → ((v : List ℕ) (a : A) → read v ≡ Some a → P a)
    → (vs : List (List ℕ)) (a : A) → only_value read vs ≡ Some a → P a
the_value read P each [] a h = absurd (cc (h))
the_value read P each (v ∷ []) a h = each v a h
the_value read P each (v ∷ w ∷ vs) a h = absurd (cc (h))

value_or_absent : {A : Type 0} (absent : A) (read : List ℕ → Option A) (P : A → Type 0) → P absent → ((v : List ℕ) (a : A) → read v ≡ Some a → P a)
    → (vs : List (List ℕ)) (a : A) → value_or absent read vs ≡ Some a → P a
value_or_absent absent read P none each [] a h = let e : absent ≡ a = cc (h) in subst P e none
value_or_absent absent read P none each (v ∷ vs) a h = the_value read P each (v ∷ vs) a h

pub record AllFour (a b : Option ℕ) (c : Option (List ℕ)) (d : Option (List Pair)) (x : Parts) : Type 0 where
  pub kind : a ≡ Some x.kind
  pub time : b ≡ Some x.time
  pub nonce : c ≡ Some x.nonce
  pub metadata : d ≡ Some x.metadata

pub four_are : (a b : Option ℕ) (c : Option (List ℕ)) (d : Option (List Pair)) (x : Parts) → all_four a b c d ≡ Some x → AllFour a b c d x
four_are None b c d x h = absurd (cc (h))
four_are (Some k) None c d x h = absurd (cc (h))
four_are (Some k) (Some t) None d x h = absurd (cc (h))
four_are (Some k) (Some t) (Some n) None x h = absurd (cc (h))
four_are (Some k) (Some t) (Some n) (Some m) x h =
    let e : record { kind = k; time = t; nonce = n; metadata = m } ≡ x = cc (h) in
    subst (AllFour (Some k) (Some t) (Some n) (Some m)) e (record { kind = refl; time = refl; nonce = refl; metadata = refl })

parts_within : (p : Place) (fs : Fields) (x : Parts) → parts_of fs ≡ Some x → IsWithinBounds (at_place p x)
unfolding parts_of kind_of time_of nonce_of metadata_of
parts_within p fs x h =
    let four = four_are (kind_of fs) (time_of fs) (nonce_of fs) (metadata_of fs) x h in
    record {
      kind = the_value decimal_of (λ n. n < 2 ^ 64) decimal_is_below (values_of (codes "type") fs) x.kind four.kind;
      time = the_value time_at (λ n. n ≤ GREATEST_TIME) time_is_low (values_of (codes "timestamp") fs) x.time four.time;
      nonce = the_value nonce_in IsNonce nonce_is_one (values_of (codes "nonce") fs) x.nonce four.nonce;
      order = value_or_absent [] metadata_at AreInKeyOrder none_in_order metadata_ascends (values_of (codes "metadata") fs) x.metadata four.metadata;
      texts = value_or_absent [] metadata_at EachPairUtf8 tt metadata_is_utf8 (values_of (codes "metadata") fs) x.metadata four.metadata;
    }

-- A common part that is read is within its bounds.
pub common_is_within : (p : Place) (t : List ℕ) (c : Common) → common_at p t ≡ Some c → IsWithinBounds c
common_is_within p t c h =
    let s = then_some (common_of p) (fields_at t) c h in
    let m = map_some (at_place p) (parts_of s.0) c s.2 in
    subst IsWithinBounds m.2 (parts_within p s.0 m.0 m.1)
