-- Git's object format, without annotated tags: which text is whose. Each value has one text, and each text at most one value.
use Rattle.std.specs.Prelude.{◌≡◌, ◌≢◌, ℕ, List, [], ◌∷◌, ◌++◌, codes, decimal, length, Bool, true, false, if◌then◌else◌, IsPermutation, IsSortedByKey}
use Rattle.std.specs.Ordering.{nat_cmp}
use Rattle.std.specs.Cmp.Lexicographic.{slice_cmp}
use Rattle.std.specs.List.{flat_map, AllByRecursion, AllPairs}
use Rattle.hex.specs.Hex.{encode_lower}
use Rattle.sha1.specs.Sha1.{sha1}
use Rattle.gb_text.specs.Digits.{IsName}
use Rattle.gb_text.specs.declared.id.Name.{Name}
use Rattle.git_object.specs.declared.entry.Mode.{Mode}
use Rattle.git_object.specs.declared.entry.Mode.TheVariants.{Plain, Exec, Link, Folder, Module}
use Rattle.git_object.specs.declared.entry.Entry.{Entry}
use Rattle.git_object.specs.declared.tree.Tree.{Tree}
use Rattle.git_object.specs.declared.commit.Commit.{Commit}
use Rattle.git_object.specs.declared.frame.Kind.{Kind}
use Rattle.git_object.specs.declared.frame.Kind.TheVariants as kinds
use Rattle.git_object.specs.declared.object.Object.{Object}
use Rattle.git_object.specs.declared.object.Object.TheVariants as objects

-- no byte of the text is b
abbrev pub Lacks : ℕ → List ℕ → Type 0
Lacks b text = AllByRecursion (λ x. x ≢ b) text

-- ---- trees

-- the digits of a mode
abbrev pub mode_text : Mode → List ℕ
mode_text Plain = codes "100644"
mode_text Exec = codes "100755"
mode_text Link = codes "120000"
mode_text Folder = codes "40000"
mode_text Module = codes "160000"

-- the mode of a folder, whose object is a tree
abbrev pub is_folder : Mode → Bool
is_folder Folder = true
is_folder _ = false

-- the name of an entry: not empty, without a zero byte and without a slash
pub record IsEntryName (name : List ℕ) : Type 0 where
  pub some : name ≢ []
  pub no_zero : Lacks 0 name
  pub no_slash : Lacks 47 name

-- the text of an entry: mode, space, name, zero byte, the 20 bytes of the object's name
abbrev pub entry_text : Entry → List ℕ
entry_text e = mode_text e.mode ++ 32 ∷ e.name ++ 0 ∷ e.object.bytes

-- an entry that has a text
pub record IsEntry (e : Entry) : Type 0 where
  pub name : IsEntryName e.name
  pub object : IsName e.object

-- no two entries have one name
abbrev pub AreDistinct : List Entry → Type 0
AreDistinct entries = AllPairs (λ a b. a.name ≢ b.name) entries

-- the content of a tree: the texts of its entries, one after the other
pub record IsTreeText (content : List ℕ) (t : Tree) : Type 0 where
  pub each : AllByRecursion IsEntry t.entries
  pub distinct : AreDistinct t.entries
  pub text : content ≡ flat_map entry_text t.entries

-- a tree whose names are such that it can be written
pub record HasGoodNames (t : Tree) : Type 0 where
  pub each : AllByRecursion (λ e. IsEntryName e.name) t.entries
  pub distinct : AreDistinct t.entries

-- the key by which the writer sorts: the name, a folder's as if it ended in a slash
abbrev pub sort_key : Entry → List ℕ
sort_key e = if is_folder e.mode then e.name ++ 47 ∷ [] else e.name

-- the same entries, in the writer's order
pub record IsSortedForm (t sorted : Tree) : Type 0 where
  pub permutation : IsPermutation t.entries sorted.entries
  pub order : IsSortedByKey sort_key (slice_cmp nat_cmp) sorted.entries

-- ---- commits

-- a text of one line, not empty
pub record IsLine (line : List ℕ) : Type 0 where
  pub some : line ≢ []
  pub no_end : Lacks 10 line

-- a line with its LF
abbrev pub ended : List ℕ → List ℕ
ended line = line ++ 10 ∷ []

-- the line of a parent
abbrev pub parent_line : Name → List ℕ
parent_line name = ended (codes "parent " ++ encode_lower name.bytes)

-- lines that are not empty, each with its LF
pub record AreLines (text : List ℕ) : Type 0 where
  pub lines : List (List ℕ)
  pub each : AllByRecursion IsLine lines
  pub joined : text ≡ flat_map ended lines

-- the text of a commit
abbrev pub commit_text : Commit → List ℕ
commit_text c =
    ended (codes "tree " ++ encode_lower c.tree.bytes)
    ++ flat_map parent_line c.parents
    ++ ended (codes "author " ++ c.author)
    ++ ended (codes "committer " ++ c.committer)
    ++ c.more
    ++ 10 ∷ c.message

-- a commit whose texts are such that it can be written
pub record HasGoodTexts (c : Commit) : Type 0 where
  pub author : IsLine c.author
  pub committer : IsLine c.committer
  pub more : AreLines c.more

-- the content of a commit
pub record IsCommitText (content : List ℕ) (c : Commit) : Type 0 where
  pub tree : IsName c.tree
  pub parents : AllByRecursion IsName c.parents
  pub texts : HasGoodTexts c
  pub text : content ≡ commit_text c

-- ---- objects

-- the content of a blob: its bytes
abbrev pub IsBlobText : List ℕ → List ℕ → Type 0
IsBlobText content blob = content ≡ blob

-- the word of a kind
abbrev pub kind_text : Kind → List ℕ
kind_text kinds.Blob = codes "blob"
kind_text kinds.Tree = codes "tree"
kind_text kinds.Commit = codes "commit"

-- an object text: kind, space, the content's length in decimal, zero byte, content
abbrev pub framed : Kind → List ℕ → List ℕ
framed kind content = kind_text kind ++ 32 ∷ decimal (length content) ++ 0 ∷ content

-- the name of the object that has this text: the text's SHA-1
abbrev pub object_name : List ℕ → Name
object_name text = record { bytes = sha1 text }

-- the kind of an object
abbrev pub kind_of : Object → Kind
kind_of (objects.Blob blob) = kinds.Blob
kind_of (objects.Tree t) = kinds.Tree
kind_of (objects.Commit c) = kinds.Commit

-- the content of an object
abbrev pub IsContent : List ℕ → Object → Type 0
IsContent content (objects.Blob blob) = IsBlobText content blob
IsContent content (objects.Tree t) = IsTreeText content t
IsContent content (objects.Commit c) = IsCommitText content c

-- the text of an object: its content, behind its kind
pub record IsObjectText (text : List ℕ) (o : Object) : Type 0 where
  pub content : List ℕ
  pub is : IsContent content o
  pub frames : text ≡ framed (kind_of o) content
