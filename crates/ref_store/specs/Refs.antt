-- What a ref reads as: a loose ref (40 lower-case digits and at most one LF), or a line of Git's packed-refs file.
use Rattle.std.specs.Prelude.{◌≡◌, ◌⊎◌, ⊤, ℕ, nat_lt, not, ◌&&◌, Bool, true, false, if◌then◌else◌, List, [], codes, length, Option, Some, None, Result, Ok, Err}
use Rattle.gb_text.specs.Digits.{name_of}
use Rattle.gb_text.specs.Folder.{joined}
use Rattle.gb_text.specs.LineEnd.{line_of}
use Rattle.gb_text.specs.declared.id.Name.{Name}
use Rattle.gb_store.specs.Files.{Files}
use Rattle.gb_store.specs.ObjectPath.{reads_after}
use Rattle.packed_refs.specs.Packed.{PackedRef, head_of, is_packed, refs_in}
use Rattle.ref_store.specs.declared.fault.RefFault.{RefFault}
use Rattle.ref_store.specs.declared.fault.RefFault.TheVariants as fault

-- what a ref is: absent, a head, or a file that is no ref text
pub data Ref : Type 0 where
  Absent : Ref
  Head : Name → Ref
  Bad : Ref

-- what a text is whose line gives this name, or none
abbrev pub head_or_bad : Option Name → Ref
head_or_bad (Some name) = Head name
head_or_bad None = Bad

-- what the file of a loose ref is
abbrev pub ref_of : Option (List ℕ) → Ref
ref_of None = Absent
ref_of (Some text) = head_or_bad (name_of (line_of text))

-- a ref exists, whatever it holds
abbrev pub is_there : Ref → Bool
is_there Absent = false
is_there (Head name) = true
is_there Bad = true

-- ---- packed refs

-- where the packed refs of a folder are stored
abbrev pub packed_place : List ℕ
packed_place = codes "packed-refs"

-- a file of more than 16,777,216 bytes is not read
abbrev pub is_long : List ℕ → Bool
is_long text = nat_lt 16777216 (length text)

-- the refs of the packed file: none where no file exists, and where it is too long or no packed text
abbrev pub packed_in : Option (List ℕ) → List PackedRef
packed_in None = []
packed_in (Some text) = if is_long text then [] else refs_in text

-- those of a text, where one was read
abbrev pub refs_of_text : Option (List ℕ) → List PackedRef
refs_of_text None = []
refs_of_text (Some text) = refs_in text

abbrev pub packed_at : Files → List ℕ → List PackedRef
packed_at files folder = packed_in (files (joined folder packed_place))

-- whether that file reads: it does not exist, or is a packed text that is not too long
abbrev pub reads_as_packed : Option (List ℕ) → Bool
reads_as_packed None = true
reads_as_packed (Some text) = not (is_long text) && is_packed text

abbrev pub packed_reads : Files → List ℕ → Bool
packed_reads files folder = reads_as_packed (files (joined folder packed_place))

-- ---- refs

-- a packed ref, where a line has its name
abbrev pub head_if : Option Name → Ref
head_if (Some name) = Head name
head_if None = Absent

-- a loose ref, or the packed one where no loose ref exists
abbrev pub or_packed : Ref → Option Name → Ref
or_packed Absent found = head_if found
or_packed (Head name) found = Head name
or_packed Bad found = Bad

-- The ref at a path of a folder.
unfoldable pub ref_at : Files → List ℕ → List ℕ → Ref
ref_at files folder path = or_packed (ref_of (files (joined folder path))) (head_of path (packed_at files folder))

-- the answer to a read of a ref, whose file stands at a path
abbrev pub Answers : List ℕ → Ref → Result (Option Name) RefFault → Type 0
Answers path ref (Ok None) = ref ≡ Absent
Answers path ref (Ok (Some name)) = ref ≡ Head name
Answers path ref (Err (fault.BadRef at)) = (at ≡ path) × (ref ≡ Bad)
Answers path ref (Err fault.Memory) = ⊤
Answers path ref (Err fault.Disk) = ⊤

-- the file at a path was read once, but perhaps not where memory ran out
abbrev pub ReadsOnce : {T : Type 0} → List ℕ → Result T RefFault → ℕ → ℕ → Type 0
ReadsOnce path (Err fault.Memory) old new = (new ≡ old) ⊎ (new ≡ reads_after path old)
ReadsOnce path _ old new = new ≡ reads_after path old
