-- A decimal reads as its number, and only decimals read.
use Rattle.std.proofs.Common.{◌≡◌, ℕ, ◌<◌, ◌^◌, cond, List, Option, Some, None, Ok, Err, IsUtf8, refl, sym, ◌∙◌, subst, arith}
use Rattle.std.proofs.lemmas.Grind.{common_steps}
use Rattle.std.proofs.lemmas.Slice.Eq.{bytes_eq-Decides}
use Rattle.std.proofs.lemmas.Fmt.{digits_value-decimal, parse-decimal, IsAscii-decimal}
use Rattle.std.proofs.lemmas.Str.{IsUtf8-from_ascii}
use Rattle.std.proofs.lemmas.Str.Parse.{IsNumeralModel}
use Rattle.std.specs.Fmt.{decimal}
use Rattle.std.specs.Str.{bytes_eq}
use Rattle.std.specs.Str.Parse.{AllDigits, digits_value, ParsesUnsigned}
use Rattle.gb_text.specs.Decimal.{IsDecimal, decimal_of}

-- digits and their value
by_value : IsNumeralModel (AllDigits 10) (digits_value 10)
by_value = record { to = λ ds are. are; from = λ ds are. are; same = λ ds are. refl }

-- what reads as a number is its decimal
pub decimal_of-is : (text : List ℕ) (n : ℕ) → decimal_of text ≡ Some n → IsDecimal text n
decimal_of-is text n e =
    let facts : (n < 2 ^ 64) × (text ≡ decimal n) = grind (arith, common_steps, bytes_eq-Decides (decimal (digits_value 10 text)) text) in
    record { below = facts.0; prints = facts.1 }

-- a decimal reads as its number
pub decimal_of-decimal : (text : List ℕ) (n : ℕ) → IsDecimal text n → decimal_of text ≡ Some n
decimal_of-decimal text n is =
    let value : digits_value 10 (decimal n) ≡ n = digits_value-decimal by_value n is.below in
    rw (is.prints, value) (grind (arith, common_steps, bytes_eq-Decides (decimal n) (decimal n), is.below))

-- a text that is not UTF-8 is no decimal
pub decimal_of-not_utf8 : (text : List ℕ) → ¬ IsUtf8 text → decimal_of text ≡ None
decimal_of-not_utf8 text not = each (decimal_of text) refl
  where
    each : (o : Option ℕ) → decimal_of text ≡ o → decimal_of text ≡ None
    each None h = h
    each (Some n) h =
        let is = decimal_of-is text n h in
        absurd (not (subst IsUtf8 (sym is.prints) (IsUtf8-from_ascii (decimal n) (IsAscii-decimal n is.below))))

-- a text that does not parse is no decimal
pub decimal_of-refused : {E : Type 0} (text : List ℕ) (fault : E) → ParsesUnsigned 64 10 text (Err fault) → decimal_of text ≡ None
decimal_of-refused {E} text fault parses = each (decimal_of text) refl
  where
    each : (o : Option ℕ) → decimal_of text ≡ o → decimal_of text ≡ None
    each None h = h
    each (Some n) h =
        let is = decimal_of-is text n h in
        cc (parse-decimal {E = E} 64 n text (Err fault) is.below is.below is.prints parses)

-- a text that parses is the decimal of its number, or of none
pub decimal_of-parsed : (E : Type 0) (text : List ℕ) (n : ℕ) → ParsesUnsigned {E = E} 64 10 text (Ok n)
    → decimal_of text ≡ cond (bytes_eq (decimal n) text) (Some n) None
decimal_of-parsed E text n parses = each (decimal_of text) refl
  where
    below : n < 2 ^ 64
    below = rw parses.1 parses.0.1

    each : (o : Option ℕ) → decimal_of text ≡ o → decimal_of text ≡ cond (bytes_eq (decimal n) text) (Some n) None
    each None h =
        let other : text ≡ decimal n → None ≡ Some n = λ e. sym h ∙ decimal_of-decimal text n (record { below = below; prints = e }) in
        h ∙ grind (arith, common_steps, bytes_eq-Decides (decimal n) text, other)
    each (Some m) h =
        let is = decimal_of-is text m h in
        let same = parse-decimal {E = E} 64 m text (Ok n) is.below is.below is.prints parses in
        h ∙ grind (arith, common_steps, bytes_eq-Decides (decimal n) text, same, is.prints)
