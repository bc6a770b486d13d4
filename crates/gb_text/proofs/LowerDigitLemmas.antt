-- Lower-case digits that decode are what their bytes print as.
use Rattle.std.proofs.Common.{◌≡◌, ℕ, zero, suc, ◌+◌, ◌-◌, ◌*◌, ◌%◌, ◌<◌, ◌==◌, inl, inr, Bool, true, false, ◌&&◌, cond, List, [], ◌∷◌, length, slice_index, Option, Some, None, Ok, refl, sym, ◌∙◌, ap, arith}
use Rattle.std.specs.Prelude.{nat_le, ◌/◌}
use Rattle.std.specs.List.{list_all}
use Rattle.std.proofs.lemmas.Bool.{and_parts, cases_lt, eqb-true}
use Rattle.std.proofs.lemmas.Grind.{common_steps}
use Rattle.hex.specs.Hex.{IsBytes, encode_lower, encode_with, lower_digits, decode_of, decode_sized}
use Rattle.hex.proofs.HexLemmas.{decode_of-encode_lower, decode_sized-ok, decode_sized-twice}
use Rattle.gb_text.specs.Digits.{bytes_of_digits}
use Rattle.gb_text.specs.PrefixText.{is_lower_digit}
use Rattle.gb_text.proofs.DigitLemmas.{bytes_of_digits-encode_lower, bytes_of_digits-is}
use Rattle.gb_text.proofs.PrefixLemmas.{encode_lower-lower}

-- the number that a digit stands for
abbrev value : ℕ → ℕ
value c = cond (nat_le c 57) (c - 48) (c - 87)

-- whether a character, if it is a digit, is the digit of its number
abbrev is_printed : ℕ → Bool
is_printed c = cond (is_lower_digit c) (slice_index lower_digits (value c) == c) true

abbrev all_printed : ℕ → Bool
all_printed zero = true
all_printed (suc n) = is_printed n && all_printed n

all_printed-at : (n c : ℕ) → all_printed n ≡ true → c < n → is_printed c ≡ true
all_printed-at zero c h lt = absurd (omega arith)
all_printed-at (suc n) c h lt =
    let parts = and_parts (is_printed n) (all_printed n) h in
    elim (cases_lt c n) [
      | inl below ↦ all_printed-at n c parts.1 below
      | inr top ↦
          let e : c ≡ n = omega arith in
          rw e parts.0
    ]

digit_small : (c : ℕ) → is_lower_digit c ≡ true → (c < 103) × (value c < 16)
digit_small c is = grind (arith, common_steps)

digit_printed : (c : ℕ) → is_lower_digit c ≡ true → slice_index lower_digits (value c) ≡ c
digit_printed c is =
    let e : is_printed c ≡ (slice_index lower_digits (value c) == c) = ap (λ (b : Bool). cond b (slice_index lower_digits (value c) == c) true) is in
    eqb-true (slice_index lower_digits (value c)) c (sym e ∙ all_printed-at 103 c refl (digit_small c is).0)

byte_front : (b : ℕ) (rest : List ℕ) → b < 256 → IsBytes rest → IsBytes (b ∷ rest)
byte_front b rest low are zero = low
byte_front b rest low are (suc k) = are k

-- pairs of lower-case digits are what some bytes print as
printed_bytes : (s : List ℕ) → length s % 2 ≡ 0 → list_all is_lower_digit s ≡ true
    → (bytes : List ℕ) × IsBytes bytes × (s ≡ encode_lower bytes)
unfolding encode_with
printed_bytes [] even are = ([], (λ k. omega arith), refl)
printed_bytes (a ∷ []) even are = absurd (omega arith)
printed_bytes (a ∷ b ∷ rest) even are =
    let one = and_parts (is_lower_digit a) (is_lower_digit b && list_all is_lower_digit rest) are in
    let two = and_parts (is_lower_digit b) (list_all is_lower_digit rest) one.1 in
    let below = printed_bytes rest (omega arith) two.1 in
    let high = (digit_small a one.0).1 in
    let low = (digit_small b two.0).1 in
    let byte = value a * 16 + value b in
    let first : byte / 16 ≡ value a = omega (arith, high, low) in
    let second : byte % 16 ≡ value b = omega (arith, high, low) in
    let front : a ≡ slice_index lower_digits (byte / 16) = sym (ap (slice_index lower_digits) first ∙ digit_printed a one.0) in
    let back : b ≡ slice_index lower_digits (byte % 16) = sym (ap (slice_index lower_digits) second ∙ digit_printed b two.0) in
    (byte ∷ below.0, byte_front byte below.0 (omega (arith, high, low)) below.1, cc (front, back, below.2))

-- what digits decode as, into room for n bytes
decodes_as : (n : ℕ) (text bytes : List ℕ) → decode_sized text n ≡ Ok bytes → decode_of text ≡ Ok bytes
decodes_as n text bytes e = sym (decode_sized-twice text n (decode_sized-ok text n bytes e)) ∙ e

-- no text with another character reads
pub others_refused : (n : ℕ) (text : List ℕ) → list_all is_lower_digit text ≡ false → bytes_of_digits n text ≡ None
others_refused n text not = each (bytes_of_digits n text) refl
  where
    each : (o : Option (List ℕ)) → bytes_of_digits n text ≡ o → bytes_of_digits n text ≡ None
    each None h = h
    each (Some bytes) h =
        let is = bytes_of_digits-is n text bytes h in
        cc (sym not ∙ ap (list_all is_lower_digit) is.2 ∙ encode_lower-lower bytes is.1)

-- lower-case digits that decode into room for n bytes read as these
pub decoded_read : (n : ℕ) (text bytes : List ℕ) → list_all is_lower_digit text ≡ true → decode_sized text n ≡ Ok bytes → length bytes ≡ n
    → bytes_of_digits n text ≡ Some bytes
decoded_read n text bytes are e sized =
    let twice = decode_sized-ok text n bytes e in
    let found = printed_bytes text (omega (arith, twice)) are in
    let same : Ok found.0 ≡ Ok bytes = sym (decode_of-encode_lower found.0 found.1) ∙ sym (ap decode_of found.2) ∙ decodes_as n text bytes e in
    let eq : found.0 ≡ bytes = grind (arith, same) in
    ap (bytes_of_digits n) (found.2 ∙ ap encode_lower eq) ∙ bytes_of_digits-encode_lower n bytes sized (rw (← eq) found.1)
