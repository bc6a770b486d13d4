-- The texts of JSON after RFC 8259, and how an array or an object splits into its parts.
use Rattle.std.specs.Prelude.{◌≡◌, ◌≢◌, ℕ, ◌+◌, zero, suc, Bool, true, List, [], ◌∷◌, ◌++◌, length, codes, ◌==◌, ◌||◌, ◌&&◌, nat_lt, not, ◌⊎◌, map, ◌≤◌, ◌<◌, take, drop}
use Rattle.std.specs.List.{AllByRecursion}
use Rattle.json_span.specs.declared.nest.TheConstants.{MOST_BRACKETS}
use Rattle.json_span.specs.declared.Span.{Span}
use Rattle.json_span.specs.declared.Member.{Member}
use Rattle.json_span.specs.declared.state.Kind.{Kind}
use Rattle.json_span.specs.declared.state.Kind.TheVariants.{Array, Object}

-- ---- bytes

-- white space: space, tab, line feed, carriage return (RFC 8259, section 2)
abbrev pub is_space : ℕ → Bool
is_space b = (b == 32) || (b == 9) || (b == 10) || (b == 13)

-- a decimal digit
abbrev pub is_digit : ℕ → Bool
is_digit b = not (nat_lt b 48) && nat_lt b 58

-- a hexadecimal digit of either case
abbrev pub is_hex : ℕ → Bool
is_hex b = is_digit b || (not (nat_lt b 65) && nat_lt b 71) || (not (nat_lt b 97) && nat_lt b 103)

-- a byte that stands for itself in a string
abbrev pub is_plain : ℕ → Bool
is_plain b = not (nat_lt b 32) && not (b == 34) && not (b == 92)

-- a byte that may follow a backslash, but for u
abbrev pub is_escape : ℕ → Bool
is_escape b = (b == 34) || (b == 92) || (b == 47) || (b == 98) || (b == 102) || (b == 110) || (b == 114) || (b == 116)

-- each byte of the text passes
abbrev pub Each : (ℕ → Bool) → List ℕ → Type 0
Each p text = AllByRecursion (λ b. p b ≡ true) text

-- ---- strings

-- the inside of a string: bytes that stand for themselves, and escapes (RFC 8259, section 7)
pub data Chars : List ℕ → Type 0 where
  no_chars : Chars []
  plain_char : {b : ℕ} {t : List ℕ} → is_plain b ≡ true → Chars t → Chars (b ∷ t)
  escaped_char : {b : ℕ} {t : List ℕ} → is_escape b ≡ true → Chars t → Chars (92 ∷ b ∷ t)
  unicode_char : {a b c d : ℕ} {t : List ℕ} → is_hex a ≡ true → is_hex b ≡ true → is_hex c ≡ true → is_hex d ≡ true → Chars t → Chars (92 ∷ 117 ∷ a ∷ b ∷ c ∷ d ∷ t)

-- a string: its inside between quotes
pub record IsString (text : List ℕ) : Type 0 where
  pub inner : List ℕ
  pub chars : Chars inner
  pub whole : text ≡ 34 ∷ inner ++ 34 ∷ []

-- ---- numbers

-- one or more digits
pub data Digits : List ℕ → Type 0 where
  digits : {b : ℕ} {t : List ℕ} → is_digit b ≡ true → Each is_digit t → Digits (b ∷ t)

-- no zero in front of a digit
pub data Integer : List ℕ → Type 0 where
  zero_digit : Integer (48 ∷ [])
  no_zero_first : {b : ℕ} {t : List ℕ} → is_digit b ≡ true → (b == 48) ≢ true → Each is_digit t → Integer (b ∷ t)

-- one byte, or none
pub data Optional (p : ℕ → Bool) : List ℕ → Type 0 where
  absent : Optional p []
  present : {b : ℕ} → p b ≡ true → Optional p (b ∷ [])

-- a point and digits, or nothing (RFC 8259, section 6)
pub data Fraction : List ℕ → Type 0 where
  no_fraction : Fraction []
  point_digits : {t : List ℕ} → Digits t → Fraction (46 ∷ t)

-- the sign in front of a number
abbrev pub is_minus : ℕ → Bool
is_minus b = b == 45

-- the sign of an exponent
abbrev pub is_sign : ℕ → Bool
is_sign b = (b == 43) || (b == 45)

-- the letter before an exponent
abbrev pub is_exponent_letter : ℕ → Bool
is_exponent_letter b = (b == 69) || (b == 101)

-- a letter, an optional sign and digits, or nothing
pub data Exponent : List ℕ → Type 0 where
  no_exponent : Exponent []
  exponent_digits : {b : ℕ} {sign t : List ℕ} → is_exponent_letter b ≡ true → Optional is_sign sign → Digits t → Exponent (b ∷ sign ++ t)

-- a number: an optional minus, an integer, a fraction and an exponent
pub record IsNumber (text : List ℕ) : Type 0 where
  pub sign : List ℕ
  pub integer : List ℕ
  pub fraction : List ℕ
  pub exponent : List ℕ
  pub is_sign : Optional is_minus sign
  pub is_integer : Integer integer
  pub is_fraction : Fraction fraction
  pub is_exponent : Exponent exponent
  pub whole : text ≡ sign ++ (integer ++ (fraction ++ exponent))

-- ---- values

-- a value that is no list: a string, a number or a literal (RFC 8259, section 3)
pub data Scalar : List ℕ → Type 0 where
  string_text : {t : List ℕ} → IsString t → Scalar t
  number_text : {t : List ℕ} → IsNumber t → Scalar t
  true_text : Scalar (codes "true")
  false_text : Scalar (codes "false")
  null_text : Scalar (codes "null")

-- the bracket that opens a list
abbrev pub open_of : Kind → ℕ
open_of Array = 91
open_of Object = 123

-- the bracket that closes a list
abbrev pub close_of : Kind → ℕ
close_of Array = 93
close_of Object = 125

-- What stands between two commas: in an object a name and a colon before the value.
pub record Piece : Type 0 where
  pub before : List ℕ
  pub name : List ℕ
  pub middle : List ℕ
  pub value : List ℕ
  pub after : List ℕ

-- the text of a piece
abbrev pub piece_text : Piece → List ℕ
piece_text p = p.before ++ (p.name ++ (p.middle ++ (p.value ++ p.after)))

-- a colon with white space round it
pub record IsColon (text : List ℕ) : Type 0 where
  pub before : List ℕ
  pub after : List ℕ
  pub is_before : Each is_space before
  pub is_after : Each is_space after
  pub whole : text ≡ before ++ 58 ∷ after

-- in an object a string stands before the value, and a colon between them; in an array nothing does
abbrev pub IsNamed : Kind → List ℕ → List ℕ → Type 0
IsNamed Array name middle = (name ≡ []) × (middle ≡ [])
IsNamed Object name middle = IsString name × IsColon middle

-- a piece of an array or an object, its value such a text
pub record IsPiece (k : Kind) (V : List ℕ → Type 0) (p : Piece) : Type 0 where
  pub before : Each is_space p.before
  pub named : IsNamed k p.name p.middle
  pub value : V p.value
  pub after : Each is_space p.after

-- further pieces, a comma before each
abbrev pub commas : List Piece → List ℕ
commas [] = []
commas (p ∷ ps) = 44 ∷ piece_text p ++ commas ps

-- what stands between the brackets
abbrev pub Inside : Kind → (List ℕ → Type 0) → List ℕ → List Piece → Type 0
Inside k V inner [] = Each is_space inner
Inside k V inner (p ∷ ps) = IsPiece k V p × AllByRecursion (IsPiece k V) ps × (inner ≡ piece_text p ++ commas ps)

-- an array or an object, of pieces whose values are such texts (RFC 8259, sections 4 and 5)
pub record IsList (k : Kind) (V : List ℕ → Type 0) (text : List ℕ) : Type 0 where
  pub inner : List ℕ
  pub pieces : List Piece
  pub inside : Inside k V inner pieces
  pub whole : text ≡ open_of k ∷ inner ++ close_of k ∷ []

-- a value text with at most so many brackets open at one place, by cases
abbrev pub ValueWithin : ℕ → List ℕ → Type 0
ValueWithin zero text = Scalar text
ValueWithin (suc d) text = Scalar text ⊎ ((k : Kind) × IsList k (ValueWithin d) text)

-- A value text with at most so many brackets open at one place.
pub record IsValueText (depth : ℕ) (text : List ℕ) : Type 0 where
  pub within : ValueWithin depth text

-- a value text that may be a part: not too many brackets are open at one place
abbrev pub IsPartText : List ℕ → Type 0
IsPartText text = IsValueText MOST_BRACKETS text

-- ---- splits

-- The text is white space, an array or object of these pieces, white space.
pub record Splits (k : Kind) (text : List ℕ) (front : List ℕ) (pieces : List Piece) : Type 0 where
  pub inner : List ℕ
  pub last : List ℕ
  pub is_front : Each is_space front
  pub is_last : Each is_space last
  pub inside : Inside k IsPartText inner pieces
  pub whole : text ≡ front ++ open_of k ∷ inner ++ close_of k ∷ last

-- where a piece's name lies, the piece at an index: an element has none
abbrev pub name_place : Kind → ℕ → Piece → Span
name_place Array at p = record { at = 0; len = 0 }
name_place Object at p = record { at = at + length p.before; len = length p.name }

-- where a piece's value lies, the piece at an index
abbrev pub value_place : ℕ → Piece → Span
value_place at p = record { at = at + length p.before + length p.name + length p.middle; len = length p.value }

-- where the names and the values of the pieces lie, the first piece at an index
abbrev pub places : Kind → ℕ → List Piece → List Member
places k at [] = []
places k at (p ∷ ps) = record { name = name_place k at p; value = value_place at p } ∷ places k (at + length (piece_text p) + 1) ps

-- the text is a list of a kind, and its parts lie there
abbrev pub IsSplit : Kind → List ℕ → List Member → Type 0
IsSplit k text members = (front : List ℕ) × (pieces : List Piece) × Splits k text front pieces × (members ≡ places k (length front + 1) pieces)

-- The text is an object, and its members lie there.
abbrev pub IsObject : List ℕ → List Member → Type 0
IsObject text members = IsSplit Object text members

-- The text is an array, and its elements lie there.
abbrev pub IsArray : List ℕ → List Span → Type 0
IsArray text spans = (members : List Member) × IsSplit Array text members × (spans ≡ map (λ m. m.value) members)

-- some text with a split begins with this
abbrev pub IsFront : Kind → List ℕ → Type 0
IsFront k front = (more : List ℕ) × (members : List Member) × IsSplit k (front ++ more) members

-- The text has no split, and the place is the length of the longest of its fronts with which some text with a split begins.
pub record IsRefusedAt (k : Kind) (text : List ℕ) (place : ℕ) : Type 0 where
  pub no_split : (members : List Member) → IsSplit k text members → ⊥
  pub within : place ≤ length text
  pub front : IsFront k (take place text)
  pub longest : place < length text → IsFront k (take (place + 1) text) → ⊥

-- ---- what spans cut

-- the span lies in the text
abbrev pub LiesIn : List ℕ → Span → Type 0
LiesIn text s = s.at + s.len ≤ length text

-- what the span cuts out of the text
abbrev pub cut_of : List ℕ → Span → List ℕ
cut_of text s = take s.len (drop s.at text)

-- the span lies in the text and cuts a value text
abbrev pub CutsValue : List ℕ → Span → Type 0
CutsValue text s = LiesIn text s × IsPartText (cut_of text s)

-- the member's spans lie in the text and cut a string and a value text
abbrev pub CutsMember : List ℕ → Member → Type 0
CutsMember text m = LiesIn text m.name × IsString (cut_of text m.name) × CutsValue text m.value
