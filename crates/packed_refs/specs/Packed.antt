-- Packed refs: many refs in one text, a line each (Git's packed-refs file).
use Rattle.std.specs.Prelude.{ℕ, ◌+◌, nat_eq, nat_lt, codes, List, [], ◌∷◌, ◌++◌, length, take, drop, Option, Some, None, Bool, ◌&&◌, if◌then◌else◌, is_some, option_and_then}
use Rattle.std.specs.List.{filter_map, starts_with}
use Rattle.std.specs.Option.{option_map}
use Rattle.std.specs.Str.{bytes_eq}
use Rattle.gb_text.specs.Digits.{id_of, name_of}
use Rattle.gb_text.specs.declared.id.Id.{Id}
use Rattle.gb_text.specs.declared.id.Name.{Name}
use Rattle.packed_refs.specs.Lines.{lines_of}
use Rattle.packed_refs.specs.declared.line.Line.{Line}
use Rattle.packed_refs.specs.declared.line.Line.TheVariants as code
use Rattle.packed_refs.specs.declared.packed.PackedHead.{PackedHead}

-- a ref's name, which is its path in the folder, and its head
pub record PackedRef : Type 0 where
  pub name : List ℕ
  pub head : Name

-- a line: a note, which is a comment or the peeled object of the line before, or a ref
pub data PackedLine : Type 0 where
  Note : PackedLine
  Ref : PackedRef → PackedLine

-- what the code's line is
abbrev pub line_is : Line → PackedLine
line_is code.Note = Note
line_is (code.Ref name head) = Ref (record { name = name.now; head = head })

-- `#` and any bytes are a comment
abbrev pub is_comment : List ℕ → Bool
is_comment line = starts_with nat_eq line (codes "#")

-- `^` and 40 digits are a peeled object
abbrev pub is_peeled : List ℕ → Bool
is_peeled line = starts_with nat_eq line (codes "^") && is_some (name_of (drop 1 line))

-- 40 digits, a space, and a name of one byte or more, are a ref
abbrev pub is_named : List ℕ → Bool
is_named line = starts_with nat_eq (drop 40 line) (codes " ") && nat_lt 41 (length line)

abbrev pub ref_line : List ℕ → Option PackedLine
ref_line line =
    if is_named line then option_map (λ head. Ref (record { name = drop 41 line; head = head })) (name_of (take 40 line)) else None

-- what a line is, if it is one of a packed text
abbrev pub packed_line : List ℕ → Option PackedLine
packed_line line = if is_comment line then Some Note else if is_peeled line then Some Note else ref_line line

-- a line's ref before those of the lines after it
abbrev pub with_line : PackedLine → List PackedRef → List PackedRef
with_line Note refs = refs
with_line (Ref one) refs = one ∷ refs

-- the refs of lines, in their order, if each is a line of a packed text
unfoldable pub refs_of_lines : List (List ℕ) → Option (List PackedRef)
refs_of_lines [] = Some []
refs_of_lines (line ∷ lines) = option_and_then (λ one. option_map (with_line one) (refs_of_lines lines)) (packed_line line)

-- those of a text, if it is a packed text
abbrev pub packed_refs : List ℕ → Option (List PackedRef)
packed_refs text = refs_of_lines (lines_of text)

abbrev pub is_packed : List ℕ → Bool
is_packed text = is_some (packed_refs text)

-- those of a text, of which one that is no packed text has none
abbrev pub or_none : Option (List PackedRef) → List PackedRef
or_none (Some refs) = refs
or_none None = []

abbrev pub refs_in : List ℕ → List PackedRef
refs_in text = or_none (packed_refs text)

-- the head after one more ref: it counts where it has the name
abbrev pub head_after : List ℕ → Option Name → PackedRef → Option Name
head_after name found one = if bytes_eq one.name name then Some one.head else found

-- the head of the last ref with a name, or what was found before if there is none
unfoldable pub last_head : List ℕ → Option Name → List PackedRef → Option Name
last_head name found [] = found
last_head name found (one ∷ refs) = last_head name (head_after name found one) refs

-- the head that refs give a name: that of its last one
abbrev pub head_of : List ℕ → List PackedRef → Option Name
head_of name refs = last_head name None refs

-- the id whose digits follow a dir and a slash
abbrev pub id_below : List ℕ → List ℕ → Option Id
id_below dir name =
    if starts_with nat_eq name (dir ++ 47 ∷ []) then id_of (drop (length dir + 1) name) else None

-- the head of an id's ref right in a dir, if it is one
abbrev pub head_in : List ℕ → PackedRef → Option PackedHead
head_in dir one = option_map (λ id. record { id = id; head = one.head }) (id_below dir one.name)

-- the heads of ids right in a dir, in the order of lines
abbrev pub heads_in : List ℕ → List PackedRef → List PackedHead
heads_in dir refs = filter_map (head_in dir) refs

-- the head of an id after one more: it counts where it is the id's
abbrev pub id_head_after : Id → Option Name → PackedHead → Option Name
id_head_after id found one = if bytes_eq one.id.bytes id.bytes then Some one.head else found

-- the head of the last entry of an id, or what was found before if there is none
unfoldable pub last_id_head : Id → Option Name → List PackedHead → Option Name
last_id_head id found [] = found
last_id_head id found (one ∷ heads) = last_id_head id (id_head_after id found one) heads

-- the head that entries give an id: that of its last one
abbrev pub id_head_of : Id → List PackedHead → Option Name
id_head_of id heads = last_id_head id None heads
