-- How the text of a query is cut into words, and what a value says.
use Rattle.std.specs.Prelude.{ℕ, ◌+◌, Bool, false, not, ◌&&◌, ◌||◌, ◌==◌, if◌then◌else◌, List, [], ◌∷◌, ◌++◌, length, Option, Some, None}
use Rattle.std.specs.Option.{option_map}
use Rattle.op_kind.specs.declared.place.Pair.{Pair}

-- ---- cuts

-- two parts, the first with a byte more in front
abbrev pub with_front : ℕ → List ℕ × List ℕ → List ℕ × List ℕ
with_front b parts = (b ∷ parts.0, parts.1)

-- the part before the first byte of this kind, and the part after it
abbrev pub cut_at : ℕ → List ℕ → Option (List ℕ × List ℕ)
cut_at mark [] = None
cut_at mark (b ∷ bs) = if b == mark then Some ([], bs) else option_map (with_front b) (cut_at mark bs)

-- after a byte a place is inside quotes or not: each quote opens or closes
abbrev pub turned : Bool → ℕ → Bool
turned inside b = if b == 34 then not inside else inside

-- the part before the first colon outside quotes, and the part after it
abbrev pub cut_outside : Bool → List ℕ → Option (List ℕ × List ℕ)
cut_outside inside [] = None
cut_outside inside (b ∷ bs) =
    if not inside && b == 58 then Some ([], bs) else option_map (with_front b) (cut_outside (turned inside b) bs)

-- ---- words

-- a space or a TAB
abbrev pub is_blank : ℕ → Bool
is_blank b = (b == 32) || (b == 9)

-- a byte cuts if it is a blank outside quotes
abbrev pub cuts : Bool → ℕ → Bool
cuts inside b = not inside && is_blank b

-- a word, and its place in the text
pub record Word : Type 0 where
  pub at : ℕ
  pub text : List ℕ

-- the word at a place, unless it is empty
abbrev pub word_at : ℕ → List ℕ → List Word
word_at at [] = []
word_at at (b ∷ bs) = record { at = at; text = b ∷ bs } ∷ []

-- the words of a text of which these bytes were read already, from a place on: it is cut at each
-- blank outside quotes
abbrev pub words_on : ℕ → List ℕ → Bool → List ℕ → List Word
words_on at begun inside [] = word_at at begun
words_on at begun inside (b ∷ bs) =
    if cuts inside b then word_at at begun ++ words_on (at + length begun + 1) [] inside bs
    else words_on at (begun ++ b ∷ []) (turned inside b) bs

-- the words of a text
abbrev pub words_of : List ℕ → List Word
words_of text = words_on 0 [] false text

-- the place of the quote that is open after a byte at a place, if one is
abbrev pub opened : Option ℕ → ℕ → ℕ → Option ℕ
opened None place b = if b == 34 then Some place else None
opened (Some before) place b = if b == 34 then None else Some before

-- the same after a text that begins at a place
abbrev pub open_on : ℕ → Option ℕ → List ℕ → Option ℕ
open_on at quote [] = quote
open_on at quote (b ∷ bs) = open_on (at + 1) (opened quote at b) bs

-- the place of a quote that is not closed
abbrev pub open_quote : List ℕ → Option ℕ
open_quote text = open_on 0 None text

-- ---- values

-- the part before the closing quote, if nothing follows it
abbrev pub closed : Option (List ℕ × List ℕ) → Option (List ℕ)
closed (Some (inner, [])) = Some inner
closed _ = None

-- a value without quotes is not empty
abbrev pub plain : List ℕ → Option (List ℕ)
plain [] = None
plain (b ∷ bs) = Some (b ∷ bs)

-- the text of a value that is cut at its first quote: if it begins with one, what is before
-- the other; if it has none, itself
abbrev pub text_in : List ℕ → Option (List ℕ × List ℕ) → Option (List ℕ)
text_in value None = plain value
text_in value (Some ([], rest)) = closed (cut_at 34 rest)
text_in value (Some (b ∷ bs, rest)) = None

-- the text of a value, if it has one
abbrev pub value_of : List ℕ → Option (List ℕ)
value_of value = text_in value (cut_at 34 value)

-- a key and a value, each with its text, the key's not empty
abbrev pub pair_in : Option (List ℕ) → Option (List ℕ) → Option Pair
pair_in (Some (b ∷ bs)) (Some value) = Some (record { key = b ∷ bs; value = value })
pair_in _ _ = None

-- the same, of the two parts of a value
abbrev pub pair_of_parts : Option (List ℕ × List ℕ) → Option Pair
pair_of_parts None = None
pair_of_parts (Some parts) = pair_in (value_of parts.0) (value_of parts.1)

-- the key and the value of metadata, cut at the first colon outside quotes
abbrev pub pair_of : List ℕ → Option Pair
pair_of value = pair_of_parts (cut_outside false value)
