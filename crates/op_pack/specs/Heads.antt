-- What a commit's tree says of its pack, and what may be wrong with the tree.
use Rattle.std.specs.Prelude.{◌≡◌, ◌≤◌, ◌⊎◌, ℕ, ◌&&◌, ◌==◌, Bool, true, false, if◌then◌else◌, List, [], ◌∷◌, ◌++◌, length, map, take, drop, codes, decimal, Option, Some, None}
use Rattle.std.specs.Option.{ForSome, option_map}
use Rattle.std.specs.List.{filter_map, find, AllByRecursion}
use Rattle.std.specs.Str.{bytes_eq}
use Rattle.gb_text.specs.Decimal.{decimal_of}
use Rattle.gb_text.specs.declared.decimal.TheConstants.{GREATEST_TIME}
use Rattle.gb_text.specs.declared.id.Name.{Name}
use Rattle.lamport.specs.Clock.{time_of}
use Rattle.git_object.specs.Grammar.{object_name, framed}
use Rattle.git_object.specs.declared.entry.Entry.{Entry}
use Rattle.git_object.specs.declared.entry.Mode.{Mode}
use Rattle.git_object.specs.declared.entry.Mode.TheVariants.{Plain, Exec, Link, Folder, Module}
use Rattle.git_object.specs.declared.frame.Kind.TheVariants.{Blob}
use Rattle.git_object.specs.declared.tree.Tree.{Tree}
use Rattle.git_object.specs.declared.tree_view.EntryView.{EntryView}
use Rattle.git_object.specs.Views.{entry_seen}
use Rattle.op_kind.specs.Members.{IsRepeated, Breaks, Lacks, only_value, value_or}
use Rattle.op_pack.specs.declared.fault.PackFault.{PackFault}
use Rattle.op_pack.specs.declared.fault.PackFault.TheVariants.{Memory, UnknownVersion, NoOps, BadClock, BadPack, BadOperation, TooLarge}
use Rattle.op_pack.specs.declared.head.TreeHead.{TreeHead}
use Rattle.op_kind.specs.declared.place.TheConstants.{VERSION}

-- ---- entries by their names

-- what follows a front in an entry's name, if the name begins so
abbrev pub rest_after : List ℕ → Entry → Option (List ℕ)
rest_after front e = if bytes_eq (take (length front) e.name) front then Some (drop (length front) e.name) else None

-- what follows a front in each of the names that begin so
abbrev pub rests_after : List ℕ → List Entry → List (List ℕ)
rests_after front entries = filter_map (rest_after front) entries

-- the same of entries that borrow from a tree's text
abbrev pub rests_seen : List ℕ → List EntryView → List (List ℕ)
rests_seen front entries = rests_after front (map entry_seen entries)

-- what follows `version-` in the names of a tree's entries
abbrev pub versions : Tree → List (List ℕ)
versions t = rests_after (codes "version-") t.entries

-- what follows `edit-clock-` in them
abbrev pub edit_clocks : Tree → List (List ℕ)
edit_clocks t = rests_after (codes "edit-clock-") t.entries

-- what follows `create-clock-` in them
abbrev pub create_clocks : Tree → List (List ℕ)
create_clocks t = rests_after (codes "create-clock-") t.entries

-- ---- what they say

-- the version of the format
abbrev pub known_version : Option ℕ → Option ℕ
known_version (Some n) = if n == VERSION then Some n else None
known_version None = None

-- the version of which a text is the decimal, if it is that of the format
abbrev pub version_at : List ℕ → Option ℕ
version_at text = known_version (decimal_of text)

-- the clock that is this number, if it is one
abbrev pub clock_in_range : Option ℕ → Option ℕ
clock_in_range (Some n) = time_of n
clock_in_range None = None

-- the clock of which a text is the decimal, if it is that of one
abbrev pub clock_at : List ℕ → Option ℕ
clock_at text = clock_in_range (decimal_of text)

-- a clock that may be absent
abbrev pub some_clock_at : List ℕ → Option (Option ℕ)
some_clock_at text = option_map (λ n. Some n) (clock_at text)

-- a file's mode: 100644 or 100755
abbrev pub is_file : Mode → Bool
is_file Plain = true
is_file Exec = true
is_file Link = false
is_file Folder = false
is_file Module = false

-- the file `ops`
abbrev pub is_ops : Entry → Bool
is_ops e = bytes_eq e.name (codes "ops") && is_file e.mode

-- the version: just one entry begins with `version-`, and the format's version follows
abbrev pub version_of : Tree → Option ℕ
version_of t = only_value version_at (versions t)

-- the edit clock: just one entry begins with `edit-clock-`, and a clock's decimal follows
abbrev pub edit_clock_of : Tree → Option ℕ
edit_clock_of t = only_value clock_at (edit_clocks t)

-- the create clock, or that there is none: at most one entry begins with `create-clock-`, and a clock's decimal follows
abbrev pub create_clock_of : Tree → Option (Option ℕ)
create_clock_of t = value_or None some_clock_at (create_clocks t)

-- the object that the file `ops` names, the first where there are several
abbrev pub ops_of : Tree → Option Name
ops_of t = option_map (λ e. e.object) (find is_ops t.entries)

-- all four, if each is there
abbrev pub all_four : Option ℕ → Option ℕ → Option (Option ℕ) → Option Name → Option TreeHead
all_four None _ _ _ = None
all_four (Some v) None _ _ = None
all_four (Some v) (Some e) None _ = None
all_four (Some v) (Some e) (Some c) None = None
all_four (Some v) (Some e) (Some c) (Some o) = Some (record { version = v; edit = e; create = c; ops = o })

-- What a tree says of its pack.
abbrev pub head_of : Tree → Option TreeHead
head_of t = all_four (version_of t) (edit_clock_of t) (create_clock_of t) (ops_of t)

-- ---- what may be wrong

-- one of the texts is the decimal of the number
abbrev pub SomeReads : ℕ → List (List ℕ) → Type 0
SomeReads n [] = ⊥
SomeReads n (text ∷ texts) = (decimal_of text ≡ Some n) ⊎ SomeReads n texts

-- one of the texts is the decimal of the number, or the number is 0 and none of them is a decimal
abbrev pub IsTold : ℕ → List (List ℕ) → Type 0
IsTold n texts = SomeReads n texts ⊎ ((n ≡ 0) × AllByRecursion (λ text. decimal_of text ≡ None) texts)

-- The fault holds of a tree.
abbrev pub HeadFault : Tree → PackFault → Type 0
HeadFault t Memory = ⊥
HeadFault t (UnknownVersion n) = (IsRepeated (versions t) ⊎ Lacks version_at (versions t)) × IsTold n (versions t)
HeadFault t NoOps = AllByRecursion (λ e. is_ops e ≡ false) t.entries
HeadFault t BadClock = (IsRepeated (edit_clocks t) ⊎ Lacks clock_at (edit_clocks t)) ⊎ (IsRepeated (create_clocks t) ⊎ Breaks clock_at (create_clocks t))
HeadFault t BadPack = ⊥
HeadFault t (BadOperation i f) = ⊥
HeadFault t (TooLarge n) = ⊥

-- ---- trees that are made

-- a number of 1 to the limit
pub record IsClock (n : ℕ) : Type 0 where
  pub low : 1 ≤ n
  pub high : n ≤ GREATEST_TIME

-- The version is the format's, and each clock is one.
pub record IsHeadInRange (head : TreeHead) : Type 0 where
  pub version : head.version ≡ VERSION
  pub edit : IsClock head.edit
  pub create : ForSome head.create (λ clock. IsClock clock)

-- the name of the blob of no bytes
abbrev pub empty_blob : Name
empty_blob = object_name (framed Blob [])

-- an entry of mode 100644
abbrev pub plain_entry : List ℕ → Name → Entry
plain_entry name object = record { mode = Plain; name = name; object = object }

-- the entry of a number behind a front
abbrev pub number_entry : List ℕ → ℕ → Entry
number_entry front n = plain_entry (front ++ decimal n) empty_blob

-- the entry of a create clock, where there is one
abbrev pub create_entries : Option ℕ → List Entry
create_entries None = []
create_entries (Some n) = number_entry (codes "create-clock-") n ∷ []

-- The tree that says these clocks and names this object.
abbrev pub tree_with : ℕ → Option ℕ → Name → Tree
tree_with edit create ops = record {
  entries = plain_entry (codes "ops") ops ∷ number_entry (codes "version-") VERSION ∷ number_entry (codes "edit-clock-") edit ∷ create_entries create;
}
