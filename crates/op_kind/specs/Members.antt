-- The members of an object by the texts of their names.
use Rattle.std.specs.Prelude.{◌&&◌, ◌==◌, not, nat_lt, Bool, ◌≡◌, ◌≤◌, ◌⊎◌, ℕ, List, [], ◌∷◌, length, Option, Some, None, option_and_then, if◌then◌else◌}
use Rattle.std.specs.Option.{option_map}
use Rattle.std.specs.Str.{bytes_eq, is_utf8}
use Rattle.serde_json.specs.Find.{as_str}
use Rattle.serde_json.specs.Read.{read}
use Rattle.json_span.specs.Parts.{members_of}

-- a byte that stands for itself in a JSON string: neither a control character nor a quote nor a backslash
abbrev pub is_plain : ℕ → Bool
is_plain c = not (nat_lt c 32) && (not (c == 34) && not (c == 92))

-- a text in UTF-8, as each string is
abbrev pub utf8_only : List ℕ → Option (List ℕ)
utf8_only text = if is_utf8 text then Some text else None

-- The text that a JSON string reads as.
unfoldable pub text_at : List ℕ → Option (List ℕ)
text_at json = if is_utf8 json then option_and_then utf8_only (option_and_then as_str (read json)) else None

-- the texts of names, each with the bytes of its value
abbrev pub Fields : Type 0
Fields = List (List ℕ × List ℕ)

-- a member before others, if its name reads
abbrev pub with_member : Option (List ℕ) → List ℕ → Fields → Fields
with_member None value others = others
with_member (Some name) value others = (name, value) ∷ others

-- the members whose names read, each with the text of its name
abbrev pub fields_of : List (List ℕ × List ℕ) → Fields
fields_of [] = []
fields_of (m ∷ ms) = with_member (text_at m.0) m.1 (fields_of ms)

-- The fields of an object text.
abbrev pub fields_at : List ℕ → Option Fields
fields_at text = option_map fields_of (members_of text)

-- all that stands under a name
abbrev pub values_of : List ℕ → Fields → List (List ℕ)
values_of name [] = []
values_of name (f ∷ fs) = if bytes_eq f.0 name then f.1 ∷ values_of name fs else values_of name fs

-- the name stands there twice or more
abbrev pub IsRepeated : List (List ℕ) → Type 0
IsRepeated values = 2 ≤ length values

-- a value does not read
abbrev pub Breaks : {A : Type 0} → (List ℕ → Option A) → List (List ℕ) → Type 0
Breaks read [] = ⊥
Breaks read (v ∷ vs) = (read v ≡ None) ⊎ Breaks read vs

-- there is no value, or one that does not read
abbrev pub Lacks : {A : Type 0} → (List ℕ → Option A) → List (List ℕ) → Type 0
Lacks read values = (values ≡ []) ⊎ Breaks read values

-- what the only value reads as
abbrev pub only_value : {A : Type 0} → (List ℕ → Option A) → List (List ℕ) → Option A
only_value read [] = None
only_value read (v ∷ []) = read v
only_value read (v ∷ w ∷ vs) = None

-- what the only value reads as, and where there is no value what stands for it
abbrev pub value_or : {A : Type 0} → A → (List ℕ → Option A) → List (List ℕ) → Option A
value_or absent read [] = Some absent
value_or absent read (v ∷ vs) = only_value read (v ∷ vs)
