-- A text in quotes is a JSON string, and reads as the text.
use Rattle.std.proofs.Common.{◌≡◌, ◌≤◌, ◌<◌, ◌∙◌, ◌/◌, ◌%◌, refl, sym, ap, List, [], ◌∷◌, ℕ, Bool, true, false, cond, Some, None, arith}
use Rattle.std.specs.Prelude.{option_and_then, ◌||◌, ◌&&◌, ◌==◌, nat_lt, not, if◌then◌else◌}
use Rattle.std.specs.Char.{digit_char}
use Rattle.std.specs.Str.{IsUtf8}
use Rattle.std.proofs.lemmas.Str.{is_utf8-from_IsUtf8}
use Rattle.std.proofs.lemmas.Bool.{ltb-true, ltb-false}
use Rattle.json.specs.Token.{Token}
use Rattle.json.specs.Lex.{tokens}
use Rattle.json.specs.Print.{quoted, escape, escape_byte, escape_letter, ArePrintable}
use Rattle.json.specs.Json.{value, if_last}
use Rattle.json.proofs.Printed.Tokens.{tokens-print}
use Rattle.json.proofs.Printed.Utf8.{IsUtf8-quoted}
use Rattle.serde_json.specs.Read.{of_json, max_depth, read}
use Rattle.serde_json.specs.Find.{as_str}
use Rattle.serde_json.specs.Data.{string}
use Rattle.serde_json.proofs.Texts.{print-outline}
use Rattle.json_span.specs.Grammar.{Chars, IsString, IsValueText, is_escape, is_hex}
use Rattle.json_span.specs.Grammar.Chars.{no_chars, plain_char, escaped_char, unicode_char}
use Rattle.json_span.proofs.ValueLaws.{string_is, quoted_is, chars_joined}
use Rattle.op_kind.specs.Members.{text_at, utf8_only}

-- ---- strings

or_left : (p q : Bool) → p ≡ true → (p || q) ≡ true
or_left true q h = refl
or_left false q h = absurd (cc)

letter_escapes : (x : ℕ) (a b c d e f : Bool) → ((x == 34) || (x == 92)) ≡ a
    → nat_lt 0 (cond a x (cond b 98 (cond c 102 (cond d 110 (cond e 114 (cond f 116 0)))))) ≡ true
    → is_escape (cond a x (cond b 98 (cond c 102 (cond d 110 (cond e 114 (cond f 116 0)))))) ≡ true
letter_escapes x true b c d e f h some = or_left _ _ (or_left _ _ (or_left _ _ (or_left _ _ (or_left _ _ (or_left _ _ h)))))
letter_escapes x false true c d e f h some = refl
letter_escapes x false false true d e f h some = refl
letter_escapes x false false false true e f h some = refl
letter_escapes x false false false false true f h some = refl
letter_escapes x false false false false false true h some = refl
letter_escapes x false false false false false false h some = absurd (cc)

neither : (p q : Bool) → (p || q) ≡ false → (not p && not q) ≡ true
neither true q h = absurd (cc)
neither false true h = absurd (cc)
neither false false h = refl

no_letter : (x : ℕ) (a : Bool) (rest : ℕ) → ((x == 34) || (x == 92)) ≡ a → nat_lt 0 (cond a x rest) ≡ false → nat_lt x 32 ≡ false → ((x == 34) || (x == 92)) ≡ false
no_letter x false rest h none high = h
no_letter x true rest h none high =
    let large : 32 ≤ x = ltb-false x 32 high in
    let small : x ≤ 0 = ltb-false 0 x none in
    absurd (omega arith)

plain_is : (b p q : Bool) → b ≡ false → (p || q) ≡ false → (not b && not p && not q) ≡ true
plain_is true p q h k = absurd (cc)
plain_is false true q h k = absurd (cc)
plain_is false false true h k = absurd (cc)
plain_is false false false h k = refl

hex_digit : (d : ℕ) → d < 16 → is_hex (digit_char d) ≡ true
hex_digit d low = grind (arith)

escape_is : (x : ℕ) (one two : Bool) → nat_lt 0 (escape_letter x) ≡ one → nat_lt x 32 ≡ two
    → Chars (cond one (92 ∷ escape_letter x ∷ []) (cond two (92 ∷ 117 ∷ 48 ∷ 48 ∷ digit_char (x / 16) ∷ digit_char (x % 16) ∷ []) (x ∷ [])))
escape_is x true two letter low = escaped_char (letter_escapes x _ _ _ _ _ _ refl letter) no_chars
escape_is x false true letter low =
    let below : x < 32 = ltb-true x 32 low in
    unicode_char refl refl (hex_digit (x / 16) (omega arith)) (hex_digit (x % 16) (omega arith)) no_chars
escape_is x false false letter low = plain_char (plain_is _ _ _ low (no_letter x _ _ refl letter low)) no_chars

byte_chars : (x : ℕ) → Chars (escape_byte x)
unfolding escape_byte
byte_chars x = escape_is x _ _ refl refl

escape_chars : (t : List ℕ) → Chars (escape t)
escape_chars [] = no_chars
escape_chars (x ∷ xs) = chars_joined (escape_byte x) (escape xs) (byte_chars x) (escape_chars xs)

-- A text in quotes is a JSON string.
pub quoted_is_string : (t : List ℕ) → IsString (quoted t)
quoted_is_string t = quoted_is (escape t) (escape_chars t)

-- A text in quotes is a value text.
pub quoted_is_value : (depth : ℕ) (t : List ℕ) → IsValueText depth (quoted t)
quoted_is_value depth t = string_is depth (quoted t) (quoted_is_string t)

-- ---- reading back

tokens_quoted : (t : List ℕ) → tokens (quoted t) ≡ Token.string t ∷ []
unfolding ArePrintable
tokens_quoted t = ap tokens (sym (print-outline (string t))) ∙ tokens-print (Token.string t ∷ []) (tt, tt)

read_tokens : (t : List ℕ) → option_and_then of_json (option_and_then (λ p. if_last p.0 p.1) (value max_depth (Token.string t ∷ []))) ≡ Some (string t)
unfolding value
read_tokens t = refl

read_quoted : (t : List ℕ) → option_and_then as_str (read (quoted t)) ≡ Some t
read_quoted t = ap (λ ts. option_and_then as_str (option_and_then of_json (option_and_then (λ p. if_last p.0 p.1) (value max_depth ts)))) (tokens_quoted t) ∙ ap (option_and_then as_str) (read_tokens t)

-- A text in quotes reads as the text.
pub quoted_reads : (t : List ℕ) → IsUtf8 t → text_at (quoted t) ≡ Some t
unfolding text_at
quoted_reads t utf8 =
    ap (λ b. if b then option_and_then utf8_only (option_and_then as_str (read (quoted t))) else None) (is_utf8-from_IsUtf8 _ (IsUtf8-quoted t utf8))
    ∙ ap (option_and_then utf8_only) (read_quoted t)
    ∙ ap (λ b. if b then Some t else None) (is_utf8-from_IsUtf8 t utf8)
