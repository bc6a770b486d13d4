-- Reading a text byte by byte, as functions on lists. No part of the grammar: the laws in proofs/ tie the two.
use Rattle.std.specs.Prelude.{ℕ, ◌+◌, ◌-◌, Bool, true, false, List, [], ◌∷◌, Option, Some, None, ◌==◌, if◌then◌else◌, length}
use Rattle.std.specs.Option.{option_map}
use Rattle.json_span.specs.Grammar.{is_space, is_digit, is_hex, is_plain, is_escape, is_sign, is_exponent_letter, open_of, close_of}
use Rattle.json_span.specs.Nest.{opened, closed, innermost, is_deep}
use Rattle.json_span.specs.declared.nest.TheConstants.{MOST_BRACKETS}
use Rattle.json_span.specs.declared.Span.{Span}
use Rattle.json_span.specs.declared.Member.{Member}
use Rattle.json_span.specs.declared.state.Kind.{Kind}
use Rattle.json_span.specs.declared.state.Kind.TheVariants.{Array, Object}
use Rattle.json_span.specs.declared.state.Role.{Role}
use Rattle.json_span.specs.declared.state.Role.TheVariants.{Key, Item}
use Rattle.json_span.specs.declared.state.StringAt.{StringAt}
use Rattle.json_span.specs.declared.state.StringAt.TheVariants.{Plain, Escaped, Four, Three, Two, One}
use Rattle.json_span.specs.declared.state.NumberAt.{NumberAt}
use Rattle.json_span.specs.declared.state.NumberAt.TheVariants.{AfterMinus, AfterZero, InInteger, AfterPoint, InFraction, AfterE, AfterSign, InExponent}
use Rattle.json_span.specs.declared.state.LiteralAt.{LiteralAt}
use Rattle.json_span.specs.declared.state.LiteralAt.TheVariants.{Rue, Ue, Alse, Lse, Se, E, Ull, Ll, L}
use Rattle.json_span.specs.declared.state.At.{At}
use Rattle.json_span.specs.declared.state.At.TheVariants.{Begin, Fresh, Part, Colon, Value, After, Text, Number, Literal}
use Rattle.json_span.specs.declared.marks.Within.{Within}
use Rattle.json_span.specs.declared.marks.Within.TheVariants.{Outside, InName, InNumber, InValue}
use Rattle.json_span.specs.declared.marks.Marks.{Marks}

infixl 10 ◌>>=◌
-- what follows where there is a value
abbrev pub ◌>>=◌ : {A B : Type 0} → Option A → (A → Option B) → Option B
(Some x) >>= f = f x
None >>= f = None

-- What comes next, the kinds of the open brackets, the innermost first, and how many more may be opened.
pub record State : Type 0 where
  pub at : At
  pub kinds : List Kind
  pub room : ℕ

-- a state that is reached
abbrev pub go_to : At → List Kind → ℕ → Option State
go_to at kinds room = Some (record { at = at; kinds = kinds; room = room })

-- ---- strings

-- behind one more hexadecimal digit
abbrev pub hex_step : StringAt → ℕ → Option StringAt
hex_step next b = if is_hex b then Some next else None

-- a string's state behind a byte that does not end it
unfoldable pub string_step : StringAt → ℕ → Option StringAt
string_step Plain b = if b == 92 then Some Escaped else if is_plain b then Some Plain else None
string_step Escaped b = if b == 117 then Some Four else if is_escape b then Some Plain else None
string_step Four b = hex_step Three b
string_step Three b = hex_step Two b
string_step Two b = hex_step One b
string_step One b = hex_step Plain b

-- the byte ends the string
abbrev pub ends_string : StringAt → ℕ → Bool
ends_string Plain b = b == 34
ends_string _ b = false

-- what comes behind a string
abbrev pub behind : Role → At
behind Key = Colon
behind Item = After

-- ---- numbers

-- the byte begins an exponent
abbrev pub exponent_begin : ℕ → Option NumberAt
exponent_begin b = if is_exponent_letter b then Some AfterE else None

-- the byte begins a fraction or an exponent
abbrev pub fraction_begin : ℕ → Option NumberAt
fraction_begin b = if b == 46 then Some AfterPoint else exponent_begin b

-- a number's state behind a digit
abbrev pub digit_step : NumberAt → ℕ → Option NumberAt
digit_step next b = if is_digit b then Some next else None

-- a number's state behind a byte that belongs to it
unfoldable pub number_step : NumberAt → ℕ → Option NumberAt
number_step AfterMinus b = if b == 48 then Some AfterZero else digit_step InInteger b
number_step AfterZero b = fraction_begin b
number_step InInteger b = if is_digit b then Some InInteger else fraction_begin b
number_step AfterPoint b = digit_step InFraction b
number_step InFraction b = if is_digit b then Some InFraction else exponent_begin b
number_step AfterE b = if is_sign b then Some AfterSign else digit_step InExponent b
number_step AfterSign b = digit_step InExponent b
number_step InExponent b = digit_step InExponent b

-- the number may end here
abbrev pub may_end : NumberAt → Bool
may_end AfterZero = true
may_end InInteger = true
may_end InFraction = true
may_end InExponent = true
may_end _ = false

-- ---- literals

-- the letter that comes next
abbrev pub letter : LiteralAt → ℕ
letter Rue = 114
letter Ue = 117
letter Alse = 97
letter Lse = 108
letter Se = 115
letter E = 101
letter Ull = 117
letter Ll = 108
letter L = 108

-- the letters that come behind that
abbrev pub next_letters : LiteralAt → Option LiteralAt
next_letters Rue = Some Ue
next_letters Ue = Some E
next_letters Alse = Some Lse
next_letters Lse = Some Se
next_letters Se = Some E
next_letters E = None
next_letters Ull = Some Ll
next_letters Ll = Some L
next_letters L = None

-- ---- steps

-- behind the first byte of a value that is no list
unfoldable pub scalar_begin : ℕ → Option At
scalar_begin b =
    if b == 34 then Some (Text Item Plain)
    else if b == 45 then Some (Number AfterMinus)
    else if b == 48 then Some (Number AfterZero)
    else if b == 116 then Some (Literal Rue)
    else if b == 102 then Some (Literal Alse)
    else if b == 110 then Some (Literal Ull)
    else if is_digit b then Some (Number InInteger)
    else None

-- behind a bracket that opens a list
unfoldable pub push : Kind → List Kind → ℕ → Option State
push k kinds room = opened k kinds room >>= λ nest. go_to Fresh nest.0 nest.1

-- behind the first byte of a value
unfoldable pub value_begin : List Kind → ℕ → ℕ → Option State
value_begin kinds room b =
    if b == 91 then push Array kinds room
    else if b == 123 then push Object kinds room
    else (scalar_begin b >>= λ at. go_to at kinds room)

-- behind a bracket that closes the innermost list
abbrev pub close_list : List Kind → ℕ → Option State
close_list kinds room = closed kinds room >>= λ nest. go_to After nest.0 nest.1

-- behind the first byte of a part, by the kind of its list
abbrev pub part_of : Option Kind → List Kind → ℕ → ℕ → Option State
part_of None kinds room b = None
part_of (Some Array) kinds room b = value_begin kinds room b
part_of (Some Object) kinds room b = if b == 34 then go_to (Text Key Plain) kinds room else None

-- behind the first byte of a part
unfoldable pub part_begin : List Kind → ℕ → ℕ → Option State
part_begin kinds room b = part_of (innermost kinds) kinds room b

-- behind a list's first byte that is no white space, by its kind
abbrev pub fresh_of : Option Kind → List Kind → ℕ → ℕ → Option State
fresh_of None kinds room b = None
fresh_of (Some k) kinds room b = if b == close_of k then close_list kinds room else part_begin kinds room b

-- behind a list's first byte that is no white space
unfoldable pub fresh_step : List Kind → ℕ → ℕ → Option State
fresh_step kinds room b = fresh_of (innermost kinds) kinds room b

-- behind a byte that follows a value and is no white space, by the kind of the list
abbrev pub after_of : Option Kind → List Kind → ℕ → ℕ → Option State
after_of None kinds room b = None
after_of (Some k) kinds room b =
    if b == 44 then go_to Part kinds room
    else if b == close_of k then close_list kinds room
    else None

-- behind a byte that follows a value
unfoldable pub after_step : List Kind → ℕ → ℕ → Option State
after_step kinds room b = if is_space b then go_to After kinds room else after_of (innermost kinds) kinds room b

-- behind a byte in a number: it belongs to the number, or to what follows it
abbrev pub number_goes : NumberAt → List Kind → ℕ → ℕ → Option NumberAt → Option State
number_goes n kinds room b (Some m) = go_to (Number m) kinds room
number_goes n kinds room b None = if may_end n then after_step kinds room b else None

-- behind a letter of a literal, by the letters that are to come
abbrev pub literal_goes : Option LiteralAt → List Kind → ℕ → Option State
literal_goes (Some l) kinds room = go_to (Literal l) kinds room
literal_goes None kinds room = go_to After kinds room

-- behind a byte of a string
abbrev pub text_step : Role → StringAt → List Kind → ℕ → ℕ → Option State
text_step role c kinds room b = if ends_string c b then go_to (behind role) kinds room else (string_step c b >>= λ d. go_to (Text role d) kinds room)

-- behind a letter of a literal
abbrev pub literal_step : LiteralAt → List Kind → ℕ → ℕ → Option State
literal_step l kinds room b = if b == letter l then literal_goes (next_letters l) kinds room else None

-- at a byte that is no white space
unfoldable pub begin_step : At → List Kind → ℕ → ℕ → Option State
begin_step (Begin k) kinds room b = if b == open_of k then push k kinds room else None
begin_step Fresh kinds room b = fresh_step kinds room b
begin_step Part kinds room b = part_begin kinds room b
begin_step Colon kinds room b = if b == 58 then go_to Value kinds room else None
begin_step Value kinds room b = value_begin kinds room b
begin_step _ kinds room b = None

-- behind a byte where white space may stand
abbrev pub spaced_step : At → List Kind → ℕ → ℕ → Option State
spaced_step at kinds room b = if is_space b then go_to at kinds room else begin_step at kinds room b

-- behind one more byte, or None where no text with a split goes on with it
unfoldable pub step : At → List Kind → ℕ → ℕ → Option State
step After kinds room b = after_step kinds room b
step (Text role c) kinds room b = text_step role c kinds room b
step (Number n) kinds room b = number_goes n kinds room b (number_step n b)
step (Literal l) kinds room b = literal_step l kinds room b
step (Begin k) kinds room b = spaced_step (Begin k) kinds room b
step Fresh kinds room b = spaced_step Fresh kinds room b
step Part kinds room b = spaced_step Part kinds room b
step Colon kinds room b = spaced_step Colon kinds room b
step Value kinds room b = spaced_step Value kinds room b

-- the outermost bracket is closed
abbrev pub is_done : At → List Kind → Bool
is_done After [] = true
is_done _ _ = false

-- the state before a text, and how many brackets it may have open
abbrev pub start : Kind → State
start k = record { at = Begin k; kinds = []; room = MOST_BRACKETS + 1 }

-- the state behind a text
unfoldable pub run : State → List ℕ → Option State
run s [] = Some s
run s (b ∷ bs) = step s.at s.kinds s.room b >>= λ t. run t bs

-- ---- the parts of the outermost list

-- the part of the outermost list, where no other list is open
abbrev pub within_part : At → Within
within_part (Text Key c) = InName
within_part (Text Item c) = InValue
within_part (Number n) = InNumber
within_part (Literal l) = InValue
within_part _ = Outside

-- the part of the outermost list in which a state is
abbrev pub within : At → List Kind → Within
within at kinds = if is_deep kinds then InValue else within_part at

-- an empty span
abbrev pub nowhere : Span
nowhere = record { at = 0; len = 0 }

-- nothing is marked
abbrev pub no_marks : Marks
no_marks = record { name = nowhere; from = 0 }

-- a span from a place to another
abbrev pub span_to : ℕ → ℕ → Span
span_to from to = record { at = from; len = to - from }

-- what is marked once the byte at a place is read
abbrev pub marked : ℕ → ℕ → Within → Within → Marks → Marks
marked place next Outside Outside m = m
marked place next Outside _ m = record { name = m.name; from = place }
marked place next InName Outside m = record { name = span_to m.from next; from = next }
marked place next InNumber Outside m = no_marks
marked place next InValue Outside m = no_marks
marked place next _ _ m = m

-- the part that is whole once the byte at a place is read: a number ends before that byte, any other value behind it
abbrev pub finished : ℕ → ℕ → Within → Within → Marks → Option Member
finished place next InNumber Outside m = Some (record { name = m.name; value = span_to m.from place })
finished place next InValue Outside m = Some (record { name = m.name; value = span_to m.from next })
finished place next _ _ m = None

-- a part that is whole in front of those that follow
abbrev pub also : Option Member → List Member → List Member
also None ms = ms
also (Some m) ms = m ∷ ms

-- The parts of the outermost list that end in the rest of a text of a length, where all of that rest can be read.
unfoldable pub read : ℕ → State → Marks → List ℕ → Option (List Member)
read n s m [] = if is_done s.at s.kinds then Some [] else None
read n s m (b ∷ bs) = step s.at s.kinds s.room b >>= λ t.
    option_map (also (finished (n - length (b ∷ bs)) (n - length bs) (within s.at s.kinds) (within t.at t.kinds) m))
    (read n t (marked (n - length (b ∷ bs)) (n - length bs) (within s.at s.kinds) (within t.at t.kinds) m) bs)

-- Where the parts of a text of a kind lie, or None where it has no split.
unfoldable pub split_of : Kind → List ℕ → Option (List Member)
split_of k text = read (length text) (start k) no_marks text
