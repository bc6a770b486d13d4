-- Members without escapes and white space, whose value is a string, a whole number or null.
use Rattle.std.specs.Prelude.{◌≡◌, ◌⊎◌, ℕ, ◌+◌, ◌<◌, ◌≤◌, Bool, true, false, List, ◌∷◌, ◌==◌, length, take, drop, get_or}
use Rattle.json_span.specs.Grammar.{Each, is_digit, is_plain}
use Rattle.json_span.specs.Machine.{span_to}
use Rattle.json_span.specs.declared.bare.BareMember.{BareMember}
use Rattle.json_span.specs.declared.state.At.{At}
use Rattle.json_span.specs.declared.state.At.TheVariants.{Fresh, Part, Value, After, Number}
use Rattle.json_span.specs.declared.state.Kind.{Kind}
use Rattle.json_span.specs.declared.state.Kind.TheVariants.{Object}
use Rattle.json_span.specs.declared.state.NumberAt.TheVariants.{InInteger}

-- an object's member may begin here
abbrev pub awaits_name : At → List Kind → Bool
awaits_name Fresh (Object ∷ kinds) = true
awaits_name Part (Object ∷ kinds) = true
awaits_name _ _ = false

-- the byte stands at a place of the text
abbrev pub Stands : List ℕ → ℕ → ℕ → Type 0
Stands text place b = (place < length text) × (get_or text place 0 ≡ b)

-- from one place to another the text has a string with no escape
pub record IsBareString (text : List ℕ) (from to : ℕ) : Type 0 where
  pub count : ℕ
  pub first : Stands text from 34
  pub plain : Each is_plain (take count (drop (from + 1) text))
  pub last : Stands text (from + 1 + count) 34
  pub ends : to ≡ from + 1 + count + 1

-- from one place to another the text has digits, and no zero first
pub record IsBareNumber (text : List ℕ) (from to : ℕ) : Type 0 where
  pub count : ℕ
  pub begins : from < length text
  pub digit : is_digit (get_or text from 0) ≡ true
  pub no_zero : (get_or text from 0 == 48) ≡ false
  pub digits : Each is_digit (take count (drop (from + 1) text))
  pub within : from + 1 + count ≤ length text
  pub ends : to ≡ from + 1 + count

-- from one place to another the text has the word null
pub record IsBareNull (text : List ℕ) (from to : ℕ) : Type 0 where
  pub n : Stands text from 110
  pub u : Stands text (from + 1) 117
  pub l : Stands text (from + 1 + 1) 108
  pub last : Stands text (from + 1 + 1 + 1) 108
  pub ends : to ≡ from + 1 + 1 + 1 + 1

-- from one place to another the text has such a value, and this comes behind it
pub data IsBareValue (text : List ℕ) (from to : ℕ) : At → Type 0 where
  bare_string : IsBareString text from to → IsBareValue text from to After
  bare_null : IsBareNull text from to → IsBareValue text from to After
  bare_number : IsBareNumber text from to → IsBareValue text from to (Number InInteger)

-- what comes behind a value, and where: a comma is passed
pub data Goes (text : List ℕ) (to : ℕ) (at : At) : At → ℕ → Type 0 where
  stays : Goes text to at at to
  passes_comma : Stands text to 44 → Goes text to at Part (to + 1)

-- at a place of the text such a member stands
pub record IsWholeMember (text : List ℕ) (place : ℕ) (b : BareMember) : Type 0 where
  pub colon : ℕ
  pub to : ℕ
  pub at : At
  pub is_name : IsBareString text place colon
  pub is_colon : Stands text colon 58
  pub is_value : IsBareValue text (colon + 1) to at
  pub goes : Goes text to at b.at b.end
  pub name : b.member.name ≡ span_to place colon
  pub value : b.member.value ≡ span_to (colon + 1) to

-- at a place of the text a name with a colon stands, and a value is to come
pub record IsBareName (text : List ℕ) (place : ℕ) (b : BareMember) : Type 0 where
  pub colon : ℕ
  pub is_name : IsBareString text place colon
  pub is_colon : Stands text colon 58
  pub at : b.at ≡ Value
  pub end : b.end ≡ colon + 1
  pub name : b.member.name ≡ span_to place colon
  pub value : b.member.value.at ≡ colon

-- at a place of the text such a member stands, or the name of another
abbrev pub IsBareMember : List ℕ → ℕ → BareMember → Type 0
IsBareMember text place b = IsWholeMember text place b ⊎ IsBareName text place b

-- the value of a member has ended in such a state
abbrev pub is_whole : At → Bool
is_whole Value = false
is_whole (Number n) = false
is_whole _ = true
