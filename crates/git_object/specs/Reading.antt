-- The value of a text, as functions that compute. No part of the grammar: that they answer exactly what the
-- grammar has is a law (`values_are_exact`).
use Rattle.std.specs.Prelude.{◌≡◌, ℕ, zero, suc, Bool, true, false, List, [], ◌∷◌, ◌++◌, length, take, drop, Option, Some, None, Result, Ok, Err, ◌==◌, nat_lt, if◌then◌else◌, codes, decimal, not, ◌&&◌, ◌||◌, is_none}
use Rattle.std.specs.Option.{option_map}
use Rattle.std.specs.List.{list_any, list_all, ends_with}
use Rattle.std.specs.Str.{bytes_eq}
use Rattle.gb_text.specs.Digits.{name_of}
use Rattle.gb_text.specs.declared.id.Name.{Name}
use Rattle.git_object.specs.declared.commit.Commit.{Commit}
use Rattle.git_object.specs.declared.frame.Kind.{Kind}
use Rattle.git_object.specs.declared.frame.Kind.TheVariants as kinds
use Rattle.git_object.specs.declared.entry.Mode.{Mode}
use Rattle.git_object.specs.declared.entry.Mode.TheVariants.{Plain, Exec, Link, Folder, Module}
use Rattle.git_object.specs.declared.entry.Entry.{Entry}
use Rattle.git_object.specs.declared.tree.Tree.{Tree}
use Rattle.git_object.specs.declared.object.Object.{Object}
use Rattle.git_object.specs.declared.object.Object.TheVariants as objects

-- the second step on what the first gave, if it gave something
infixl 10 ◌>>=◌
abbrev pub ◌>>=◌ : {A B : Type 0} → Option A → (A → Option B) → Option B
(Some x) >>= f = f x
None >>= f = None

-- what a function returned, seen by view, is what reading gives, unless memory ran out
abbrev pub Gives : {X Y E : Type 0} → (X → Y) → Result (Option X) E → Option Y → Type 0
Gives view (Ok o) read = option_map view o ≡ read
Gives view (Err e) read = Unit {0}

-- what follows a front
abbrev pub strip : List ℕ → List ℕ → Option (List ℕ)
strip [] bytes = Some bytes
strip (p ∷ ps) [] = None
strip (p ∷ ps) (b ∷ bs) = if p == b then strip ps bs else None

-- with a byte before what was found
abbrev pub onto : ℕ → Option (List ℕ × List ℕ) → Option (List ℕ × List ℕ)
onto x None = None
onto x (Some r) = Some (x ∷ r.0, r.1)

-- the parts round the first byte at
unfoldable pub cut_at : ℕ → List ℕ → Option (List ℕ × List ℕ)
cut_at at [] = None
cut_at at (x ∷ xs) = if x == at then Some ([], xs) else onto x (cut_at at xs)

-- the parts round the first empty line, where fresh says that a line begins here
unfoldable pub lines_at : Bool → List ℕ → Option (List ℕ × List ℕ)
lines_at fresh [] = None
lines_at false (x ∷ xs) = onto x (lines_at (x == 10) xs)
lines_at true (x ∷ xs) = if x == 10 then Some ([], xs) else onto x (lines_at false xs)

-- whether a text is lines that are not empty, each with its LF: none is empty, and the last is ended
abbrev pub are_lines : List ℕ → Bool
are_lines text = is_none (lines_at true text) && (length text == 0 || ends_with (λ x y. x == y) text (codes "\n"))

-- whether a text is one line and not empty
abbrev pub is_line : List ℕ → Bool
is_line text = not (length text == 0) && not (list_any (λ x. x == 10) text)

-- ---- lists of items

-- what follows an item, or the end of the list
abbrev pub item_then : {X : Type 0} → (List ℕ → Option (List X × List ℕ)) → Option X → List ℕ → Option (List X × List ℕ)
item_then go None rest = Some ([], rest)
item_then go (Some x) rest = go rest >>= λ others. Some (x ∷ others.0, others.1)

-- at most so many items, where step reads an item or the end
unfoldable pub many_at : {X : Type 0} → (List ℕ → Option (Option X × List ℕ)) → ℕ → List ℕ → Option (List X × List ℕ)
many_at step zero bytes = None
many_at step (suc k) bytes = step bytes >>= λ s. item_then (many_at step k) s.0 s.1

-- as many as there may be
abbrev pub all_at : {X : Type 0} → (List ℕ → Option (Option X × List ℕ)) → List ℕ → Option (List X × List ℕ)
all_at step bytes = many_at step (suc (length bytes)) bytes

-- ---- commits

-- a name's digits up to the line's end
unfoldable pub named_at : List ℕ → Option (Name × List ℕ)
named_at bytes = do
  line ← cut_at 10 bytes
  name ← name_of line.0
  Some (name, line.1)

-- the line of a commit's tree
unfoldable pub tree_at : List ℕ → Option (Name × List ℕ)
tree_at bytes = strip (codes "tree ") bytes >>= named_at

-- a text that is not empty, behind a word and up to the line's end
unfoldable pub text_at : List ℕ → List ℕ → Option (List ℕ × List ℕ)
text_at word bytes = do
  rest ← strip word bytes
  line ← cut_at 10 rest
  if length line.0 == 0 then None else Some line

-- a parent, where the word was found, or the end of the parents
abbrev pub parent_after : Option (List ℕ) → List ℕ → Option (Option Name × List ℕ)
parent_after None bytes = Some (None, bytes)
parent_after (Some rest) bytes = named_at rest >>= λ n. Some (Some n.0, n.1)

-- the line of a parent, or the end of the parents
unfoldable pub parent_at : List ℕ → Option (Option Name × List ℕ)
parent_at bytes = parent_after (strip (codes "parent ") bytes) bytes

-- the commit of which this is the content, if it is that of one
unfoldable pub commit_of : List ℕ → Option Commit
commit_of content = do
  tree ← tree_at content
  parents ← all_at parent_at tree.1
  author ← text_at (codes "author ") parents.1
  committer ← text_at (codes "committer ") author.1
  more ← lines_at true committer.1
  Some (record { tree = tree.0; parents = parents.0; author = author.0; committer = committer.0; more = more.0; message = more.1 })

-- ---- trees

-- the mode that has these digits
abbrev pub mode_of : List ℕ → Option Mode
mode_of text =
    if bytes_eq text (codes "100644") then Some Plain
    else if bytes_eq text (codes "100755") then Some Exec
    else if bytes_eq text (codes "120000") then Some Link
    else if bytes_eq text (codes "40000") then Some Folder
    else if bytes_eq text (codes "160000") then Some Module
    else None

-- a name that ended at its first zero byte is an entry's name
abbrev pub is_entry_name : List ℕ → Bool
is_entry_name name = not (length name == 0) && not (list_any (λ x. x == 47) name)

-- whether an entry's name is one
abbrev pub has_entry_name : Entry → Bool
has_entry_name e = is_entry_name e.name && not (list_any (λ x. x == 0) e.name)

-- 20 bytes
abbrev pub are_name_bytes : List ℕ → Bool
are_name_bytes bytes = (length bytes == 20) && list_all (λ b. nat_lt b 256) bytes

-- an object name's 20 bytes
unfoldable pub name_at : List ℕ → Option (Name × List ℕ)
name_at bytes = if are_name_bytes (take 20 bytes) then Some (record { bytes = take 20 bytes }, drop 20 bytes) else None

-- an entry
unfoldable pub entry_at : List ℕ → Option (Entry × List ℕ)
entry_at bytes = do
  digits ← cut_at 32 bytes
  mode ← mode_of digits.0
  name ← cut_at 0 digits.1
  object ← name_at name.1
  if is_entry_name name.0 then Some (record { mode = mode; name = name.0; object = object.0 }, object.1) else None

-- an entry, or the end of the entries
unfoldable pub entry_step : List ℕ → Option (Option Entry × List ℕ)
entry_step bytes = if length bytes == 0 then Some (None, bytes) else entry_at bytes >>= λ e. Some (Some e.0, e.1)

-- entries up to the end
unfoldable pub entries_at : List ℕ → Option (List Entry)
entries_at bytes = all_at entry_step bytes >>= λ all. Some all.0

-- no two entries have one name
abbrev pub are_distinct : List Entry → Bool
are_distinct [] = true
are_distinct (e ∷ es) = list_all (λ other. not (bytes_eq e.name other.name)) es && are_distinct es

-- the tree of which this is the content, if it is that of one
unfoldable pub tree_of : List ℕ → Option Tree
tree_of content = do
  entries ← entries_at content
  if are_distinct entries then Some (record { entries = entries }) else None

-- ---- objects

-- the kind of which this is the front, before a content of n bytes
abbrev pub kind_at : List ℕ → ℕ → Option Kind
kind_at front n =
    if bytes_eq front (codes "blob " ++ decimal n) then Some kinds.Blob
    else if bytes_eq front (codes "tree " ++ decimal n) then Some kinds.Tree
    else if bytes_eq front (codes "commit " ++ decimal n) then Some kinds.Commit
    else None

-- the kind and the content of an object text, if it is one of a kind
unfoldable pub frame_of : List ℕ → Option (Kind × List ℕ)
frame_of text = do
  parts ← cut_at 0 text
  kind ← kind_at parts.0 (length parts.1)
  Some (kind, parts.1)

-- the object of a kind of which this is the content, if it is that of one
abbrev pub object_with : Kind → List ℕ → Option Object
object_with kinds.Blob content = Some (objects.Blob content)
object_with kinds.Tree content = option_map (λ t. objects.Tree t) (tree_of content)
object_with kinds.Commit content = option_map (λ c. objects.Commit c) (commit_of content)

-- the object of which this is the text, if it is that of one
unfoldable pub object_of : List ℕ → Option Object
object_of text = frame_of text >>= λ frame. object_with frame.0 frame.1
