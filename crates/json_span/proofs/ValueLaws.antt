-- Which texts are value texts, and of which depth.
use Rattle.std.proofs.Common.{◌≡◌, ℕ, zero, suc, ◌+◌, ◌-◌, ◌/◌, ◌%◌, ◌<◌, ◌≤◌, ◌^◌, true, false, eqb, List, [], ◌∷◌, ◌++◌, refl, sym, ap, subst, arith, inl, inr}
use Rattle.std.specs.List.{AllByRecursion}
use Rattle.std.specs.Fmt.{decimal}
use Rattle.std.proofs.lemmas.Fmt.{decimal_by_steps, decimal_digit}
use Rattle.std.proofs.lemmas.List.{append-nil}
use Rattle.std.proofs.lemmas.Bool.Decides.{nat_tests}
use Rattle.json_span.specs.Grammar.{Each, is_digit, Chars, no_chars, plain_char, escaped_char, unicode_char, IsString, Integer, zero_digit, no_zero_first, absent, no_fraction, no_exponent, IsNumber, Scalar, string_text, number_text, Piece, IsPiece, Inside, ValueWithin, IsValueText}
use Rattle.json_span.specs.declared.state.Kind.{Kind}

-- ---- scalars

within_scalar : (d : ℕ) (t : List ℕ) → Scalar t → ValueWithin d t
within_scalar zero t is = is
within_scalar (suc d) t is = inl is

-- A scalar is a value text of each depth.
pub scalar_is : (d : ℕ) (t : List ℕ) → Scalar t → IsValueText d t
scalar_is d t is = record { within = within_scalar d t is }

-- A string is a value text of each depth.
pub string_is : (d : ℕ) (t : List ℕ) → IsString t → IsValueText d t
string_is d t is = scalar_is d t (string_text is)

-- Characters between quotes are a string.
pub quoted_is : (inner : List ℕ) → Chars inner → IsString (34 ∷ inner ++ 34 ∷ [])
quoted_is inner is = record { inner = inner; chars = is; whole = refl }

-- Characters behind characters are characters.
pub chars_joined : (a b : List ℕ) → Chars a → Chars b → Chars (a ++ b)
chars_joined a b no_chars more = more
chars_joined a b (plain_char {t} e is) more = plain_char e (chars_joined t b is more)
chars_joined a b (escaped_char {t} e is) more = escaped_char e (chars_joined t b is more)
chars_joined a b (unicode_char {t} p q r s is) more = unicode_char p q r s (chars_joined t b is more)

-- ---- decimals

-- the digits of a number: no zero in front, but for the number zero_digit
record Decimal (n : ℕ) (ds : List ℕ) : Type 0 where
  b : ℕ
  t : List ℕ
  at : ds ≡ b ∷ t
  digit : is_digit b ≡ true
  each : Each is_digit t
  first : 0 < n → eqb b 48 ≡ false

last_digit : (d : ℕ) → d < 10 → is_digit (48 + d) ≡ true
last_digit d lt = grind (arith, nat_tests)

not_nought : (n : ℕ) → 0 < n → eqb (48 + n) 48 ≡ false
not_nought n lt = grind (arith, nat_tests)

each_more : (t : List ℕ) (d : ℕ) → Each is_digit t → is_digit d ≡ true → Each is_digit (t ++ d ∷ [])
each_more [] d each is = (is, tt)
each_more (x ∷ xs) d each is = (each.0, each_more xs d each.1 is)

one_digit : (n : ℕ) → n < 10 → Decimal n ((48 + n) ∷ [])
one_digit n lt = record { b = 48 + n; t = []; at = refl; digit = last_digit n lt; each = tt; first = not_nought n }

more_digits : (n : ℕ) (ds : List ℕ) → 10 ≤ n → Decimal (n / 10) ds → Decimal n (ds ++ ((48 + n % 10) ∷ []))
more_digits n ds le is =
    let some : 0 < n / 10 = omega arith in
    let small : n % 10 < 10 = omega arith in
    record { b = is.b; t = is.t ++ (48 + n % 10) ∷ []; at = ap (λ (x : List ℕ). x ++ (48 + n % 10) ∷ []) is.at; digit = is.digit; each = each_more is.t (48 + n % 10) is.each (last_digit (n % 10) small); first = λ lt. is.first some }

decimal_is : (n : ℕ) → n < 2 ^ 64 → Decimal n (decimal n)
decimal_is n lt = decimal_by_steps Decimal one_digit more_digits n lt

whole_decimal : (n : ℕ) → n < 2 ^ 64 → Integer (decimal n)
whole_decimal zero lt = subst Integer (sym (decimal_digit 0 (omega arith))) zero_digit
whole_decimal (suc n) lt =
    let is = decimal_is (suc n) lt in
    let f : eqb is.b 48 ≡ false = is.first (omega arith) in
    subst Integer (sym is.at) (no_zero_first is.digit (λ same. absurd cc) is.each)

integer_number : (t : List ℕ) → Integer t → IsNumber t
integer_number t is = record { sign = []; integer = t; fraction = []; exponent = []; is_sign = absent; is_integer = is; is_fraction = no_fraction; is_exponent = no_exponent; whole = sym (append-nil t) }

-- A decimal is a value text of each depth.
pub decimal_value : (d n : ℕ) → n < 2 ^ 64 → IsValueText d (decimal n)
decimal_value d n lt = scalar_is d (decimal n) (number_text (integer_number (decimal n) (whole_decimal n lt)))

-- ---- depth

pieces_deeper : (k : Kind) (V W : List ℕ → Type 0) → ((t : List ℕ) → V t → W t) → (ps : List Piece) → AllByRecursion (IsPiece k V) ps → AllByRecursion (IsPiece k W) ps
pieces_deeper k V W f [] all = tt
pieces_deeper k V W f (p ∷ ps) all = (record { before = all.0.before; named = all.0.named; value = f p.value all.0.value; after = all.0.after }, pieces_deeper k V W f ps all.1)

-- What stands between brackets stands there for weaker values too.
pub inside_deeper : (k : Kind) (V W : List ℕ → Type 0) → ((t : List ℕ) → V t → W t) → (inner : List ℕ) (ps : List Piece) → Inside k V inner ps → Inside k W inner ps
inside_deeper k V W f inner [] is = is
inside_deeper k V W f inner (p ∷ ps) is = let w = pieces_deeper k V W f (p ∷ ps) (is.0, is.1) in (w.0, w.1, is.2)

within_deeper : (d : ℕ) (t : List ℕ) → ValueWithin d t → ValueWithin (suc d) t
within_deeper zero t is = inl is
within_deeper (suc d) t (inl is) = inl is
within_deeper (suc d) t (inr (k, l)) = inr (k, record { inner = l.inner; pieces = l.pieces; inside = inside_deeper k (ValueWithin d) (ValueWithin (suc d)) (within_deeper d) l.inner l.pieces l.inside; whole = l.whole })

within_more : (n d : ℕ) (t : List ℕ) → ValueWithin d t → ValueWithin (n + d) t
within_more zero d t is = let e : 0 + d ≡ d = omega arith in subst (λ (x : ℕ). ValueWithin x t) (sym e) is
within_more (suc n) d t is = let e : suc n + d ≡ suc (n + d) = omega arith in subst (λ (x : ℕ). ValueWithin x t) (sym e) (within_deeper (n + d) t (within_more n d t is))

-- A value text of a depth is one of each depth above it.
pub deeper : (d e : ℕ) (t : List ℕ) → d ≤ e → IsValueText d t → IsValueText e t
deeper d e t le is = let s : e - d + d ≡ e = omega arith in record { within = subst (λ (x : ℕ). ValueWithin x t) s (within_more (e - d) d t is.within) }
