-- Prefixes of ids fit fewer ids the longer they are, and an id's whole text fits one.
use Rattle.std.proofs.Common.{◌≡◌, ℕ, zero, suc, ◌<◌, ◌≤◌, ◌*◌, Bool, true, List, [], ◌∷◌, ◌&&◌, length, take, take_all, take-take, refl, sym, ap, ◌∙◌, arith}
use Rattle.std.specs.Prelude.{nat_le, slice_index, ◌/◌, ◌%◌}
use Rattle.std.specs.List.{list_all}
use Rattle.std.specs.Str.{bytes_eq}
use Rattle.std.proofs.lemmas.Bool.{and_from, and_parts}
use Rattle.std.proofs.lemmas.Grind.{common_steps}
use Rattle.std.proofs.lemmas.Slice.Eq.{bytes_eq-Decides}
use Rattle.hex.specs.Hex.{IsBytes, encode_lower, encode_with, lower_digits}
use Rattle.hex.proofs.HexLemmas.{length-encode_with}
use Rattle.gb_text.specs.Digits.{IsId}
use Rattle.gb_text.specs.Prefix.{begins_with, digits_of, fits}
use Rattle.gb_text.specs.PrefixText.{is_lower_digit, is_prefix_text}
use Rattle.gb_text.specs.declared.id.Id.{Id}
use Rattle.gb_text.specs.declared.prefix.Prefix.{Prefix}
use Rattle.gb_text.proofs.DigitLemmas.{id_digits-same}

same_bytes : (xs ys : List ℕ) → bytes_eq xs ys ≡ true → xs ≡ ys
same_bytes xs ys h = grind (arith, common_steps, bytes_eq-Decides xs ys)

bytes_same : (xs ys : List ℕ) → xs ≡ ys → bytes_eq xs ys ≡ true
bytes_same xs ys h = grind (arith, common_steps, bytes_eq-Decides xs ys)

-- a text that begins with digits has them in front
pub begins_with-take : (digits text : List ℕ) → begins_with digits text ≡ true → take (length digits) text ≡ digits
begins_with-take digits text h = same_bytes (take (length digits) text) digits h

-- a text that has digits in front begins with them
pub take-begins_with : (digits text : List ℕ) → take (length digits) text ≡ digits → begins_with digits text ≡ true
take-begins_with digits text h = bytes_same (take (length digits) text) digits h

-- where a text begins with two lists of digits, each other text that begins with the longer begins with the shorter
pub begins_with-shorter : (shorter longer one other : List ℕ) → length shorter ≤ length longer
    → begins_with shorter one ≡ true → begins_with longer one ≡ true → begins_with longer other ≡ true → begins_with shorter other ≡ true
begins_with-shorter shorter longer one other le a b c =
    let n = length shorter in
    let m = length longer in
    let same : take m other ≡ take m one = begins_with-take longer other c ∙ sym (begins_with-take longer one b) in
    let front : take n other ≡ take n one = sym (take-take n m other le) ∙ ap (take n) same ∙ take-take n m one le in
    take-begins_with shorter other (front ∙ begins_with-take shorter one a)

pub shorter_fits : (shorter longer : Prefix) (one other : Id) → length (digits_of shorter) ≤ length (digits_of longer)
    → fits shorter one ≡ true → fits longer one ≡ true → fits longer other ≡ true → fits shorter other ≡ true
shorter_fits shorter longer one other =
    begins_with-shorter (digits_of shorter) (digits_of longer) (encode_lower one.bytes) (encode_lower other.bytes)

-- an id has 64 digits
pub id_digits-sized : (id : Id) → IsId id → length (encode_lower id.bytes) ≡ 64
id_digits-sized id is = length-encode_with lower_digits id.bytes ∙ ap (λ (n : ℕ). 2 * n) is.sized

item_of_all : (p : ℕ → Bool) (xs : List ℕ) (k : ℕ) → list_all p xs ≡ true → k < length xs → p (slice_index xs k) ≡ true
item_of_all p [] k h low = absurd (omega arith)
item_of_all p (x ∷ xs) zero h low = (and_parts (p x) (list_all p xs) h).0
item_of_all p (x ∷ xs) (suc k) h low = item_of_all p xs k (and_parts (p x) (list_all p xs) h).1 (omega arith)

lower_digit : (n : ℕ) → n < 16 → is_lower_digit (slice_index lower_digits n) ≡ true
lower_digit n lt = item_of_all is_lower_digit lower_digits n refl lt

-- what bytes print as is lower-case digits
pub encode_lower-lower : (bytes : List ℕ) → IsBytes bytes → list_all is_lower_digit (encode_lower bytes) ≡ true
unfolding encode_with
encode_lower-lower [] are = refl
encode_lower-lower (b ∷ rest) are =
    let fits : b < 256 = are 0 in
    and_from (is_lower_digit (slice_index lower_digits (b / 16))) (is_lower_digit (slice_index lower_digits (b % 16)) && list_all is_lower_digit (encode_lower rest))
    (lower_digit (b / 16) (omega arith))
    (and_from (is_lower_digit (slice_index lower_digits (b % 16))) (list_all is_lower_digit (encode_lower rest))
    (lower_digit (b % 16) (omega arith)) (encode_lower-lower rest (λ k. are (suc k))))

-- the text of an id is a prefix
pub whole_text : (id : Id) → IsId id → is_prefix_text (encode_lower id.bytes) ≡ true
whole_text id is =
    let sized : (nat_le 1 (length (encode_lower id.bytes)) && nat_le (length (encode_lower id.bytes)) 64) ≡ true = rw (id_digits-sized id is) refl in
    and_from (nat_le 1 (length (encode_lower id.bytes)) && nat_le (length (encode_lower id.bytes)) 64) (list_all is_lower_digit (encode_lower id.bytes))
    sized (encode_lower-lower id.bytes is.bytes)

-- it fits the id alone
pub whole_text_fits : (prefix : Prefix) (one other : Id) → IsId one → IsId other → digits_of prefix ≡ encode_lower one.bytes
    → (fits prefix other ≡ true → other ≡ one) × (other ≡ one → fits prefix other ≡ true)
whole_text_fits prefix one other first second e =
    let sized : length (digits_of prefix) ≡ 64 = ap (λ (t : List ℕ). length t) e ∙ id_digits-sized one first in
    let whole : (id : Id) → IsId id → take (length (digits_of prefix)) (encode_lower id.bytes) ≡ encode_lower id.bytes =
    λ id is. let long = id_digits-sized id is in take_all (length (digits_of prefix)) (encode_lower id.bytes) (omega (arith, long, sized)) in (
      λ h. id_digits-same other one second first (sym (whole other second) ∙ begins_with-take (digits_of prefix) (encode_lower other.bytes) h ∙ e),
      λ same. rw same (take-begins_with (digits_of prefix) (encode_lower one.bytes) (whole one first ∙ sym e)),
    )
