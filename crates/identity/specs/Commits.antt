-- The version of a commit: what the entry `version` of its tree names, and what keeps a commit from having one.
use Rattle.std.specs.Prelude.{◌≡◌, ◌⊎◌, ◌+◌, ◌&&◌, ℕ, List, Bool, true, false, IsTrue, codes, Option, Some, None, option_and_then}
use Rattle.std.specs.List.{find}
use Rattle.std.specs.Option.{option_map}
use Rattle.std.specs.Str.{bytes_eq}
use Rattle.gb_text.specs.declared.id.Name.{Name}
use Rattle.git_object.specs.declared.commit.Commit.{Commit}
use Rattle.git_object.specs.declared.entry.Entry.{Entry}
use Rattle.git_object.specs.declared.entry.Mode.{Mode}
use Rattle.git_object.specs.declared.entry.Mode.TheVariants as mode
use Rattle.git_object.specs.declared.tree.Tree.{Tree}
use Rattle.object_store.specs.Held.{Objects, IsDamaged, IsLarge}
use Rattle.object_store.specs.declared.read.TheConstants.{MOST_BYTES}
use Rattle.object_store.specs.Typed.{IsOtherKind, as_blob, as_commit, as_tree, blob_at, commit_at, tree_at}
use Rattle.identity.specs.Version.{version_of}
use Rattle.identity.specs.declared.version.Version.{Version}
use Rattle.identity.specs.declared.fault.IdentityFault.{IdentityFault}
use Rattle.identity.specs.declared.fault.IdentityFault.TheVariants as fault

-- ---- the version of a commit

-- the mode of a file, executable or not
abbrev pub is_file : Mode → Bool
is_file mode.Plain = true
is_file mode.Exec = true
is_file _ = false

-- the entry of the version: a file named `version`
abbrev pub is_version_entry : Entry → Bool
is_version_entry e = bytes_eq e.name (codes "version") && is_file e.mode

-- the object that a tree's entry of the version names, if it has that entry; names are distinct in a tree that was read
abbrev pub version_object : Tree → Option Name
version_object t = option_map (λ e. e.object) (find is_version_entry t.entries)

-- the tree that a name holds names this object as the version
abbrev pub NamesVersion : Objects → Name → Name → Type 0
NamesVersion objects tree object = option_and_then version_object (tree_at objects tree) ≡ Some object

-- the blob that the entry of the version names, in the tree that a name holds
abbrev pub text_in : Objects → Name → Option (List ℕ)
text_in objects tree = option_and_then (blob_at objects) (option_and_then version_object (tree_at objects tree))

-- the same of the commit that a name holds
abbrev pub version_text_at : Objects → Name → Option (List ℕ)
version_text_at objects name = option_and_then (λ (commit : Commit). text_in objects commit.tree) (commit_at objects name)

-- the version of the commit that a name holds, if it has one
abbrev pub version_at : Objects → Name → Option Version
version_at objects name = option_and_then version_of (version_text_at objects name)

-- a name holds a commit that has this version, and the version has no keys
pub record HasVersion (objects : Objects) (name : Name) (version : Version) : Type 0 where
  pub is : version_at objects name ≡ Some version
  pub no_keys : version.has_keys ≡ false

-- ---- what keeps a commit from having one

-- an object that a version needs beside its commit: the tree, and what the tree's entry names
abbrev pub TreeNeeds : Objects → Name → Name → Type 0
TreeNeeds objects tree name = (name ≡ tree) ⊎ (option_and_then version_object (tree_at objects tree) ≡ Some name)

-- an object that the version of the commit under a name needs
abbrev pub Needs : Objects → Name → Name → Type 0
Needs objects of name = (name ≡ of) ⊎ ((commit : Commit) × (commit_at objects of ≡ Some commit) × TreeNeeds objects commit.tree name)

-- what is held for a commit with this tree is no version
pub data IsBad (objects : Objects) (tree : Name) : Type 0 where
  no_tree : IsOtherKind as_tree objects tree → IsBad objects tree
  no_entry : (t : Tree) → tree_at objects tree ≡ Some t → version_object t ≡ None → IsBad objects tree
  no_blob : (t : Tree) (name : Name) → tree_at objects tree ≡ Some t → version_object t ≡ Some name
      → IsOtherKind as_blob objects name → IsBad objects tree
  no_version : (text : List ℕ) → text_in objects tree ≡ Some text → version_of text ≡ None → IsBad objects tree

-- What keeps a name from holding a commit with a version without keys, one case a fault and with no order among them.
abbrev pub HasNoVersion : Objects → Name → IdentityFault → Type 0
HasNoVersion objects name (fault.Missing n) = Needs objects name n × (objects n ≡ None)
HasNoVersion objects name (fault.Damaged n) = Needs objects name n × IsDamaged objects n
HasNoVersion objects name (fault.TooLarge count) = (count ≡ MOST_BYTES + 1) × (n : Name) × Needs objects name n × IsLarge (objects n)
HasNoVersion objects name (fault.NotCommit n) = (n ≡ name) × IsOtherKind as_commit objects name
HasNoVersion objects name (fault.BadVersion n) = (n ≡ name) × (commit : Commit) × (commit_at objects name ≡ Some commit) × IsBad objects commit.tree
HasNoVersion objects name (fault.KeysPresent n) = (n ≡ name) × (version : Version) × (version_at objects name ≡ Some version) × IsTrue version.has_keys
HasNoVersion objects name _ = ⊥
