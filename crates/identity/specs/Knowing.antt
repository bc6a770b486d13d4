-- What is known of versions that were judged: of the trees that name them, and of the objects that they are.
use Rattle.std.specs.Prelude.{◌≡◌, ◌≤◌, ◌+◌, Bool, false, not, IsTrue, List, ℕ, Contains, length, Some, Result, Ok, Err}
use Rattle.std.specs.List.{All, AllByRecursion, count_by}
use Rattle.std.specs.BTreeSet.{BTreeSet, contains}
use Rattle.std.specs.declared.cmp.Ordering.{Ordering}
use Rattle.std.specs.Cmp.Lexicographic.{slice_cmp}
use Rattle.std.specs.Ordering.{nat_cmp}
use Rattle.gb_text.specs.declared.id.Name.{Name}
use Rattle.object_store.specs.Held.{Objects}
use Rattle.object_store.specs.Typed.{blob_at}
use Rattle.commit_walk.specs.Chain.{Walked}
use Rattle.commit_walk.specs.declared.chain.Link.{Link}
use Rattle.identity.specs.Answers.{IsJudged, NoVersion, OneRefused}
use Rattle.identity.specs.Commits.{NamesVersion, text_in}
use Rattle.identity.specs.Faults.{Refused}
use Rattle.identity.specs.Version.{version_of}
use Rattle.identity.specs.declared.commit.Judged.{Judged}
use Rattle.identity.specs.declared.known.Known.{Known}
use Rattle.identity.specs.declared.version.Version.{Version}
use Rattle.identity.specs.declared.fault.IdentityFault.{IdentityFault}

-- an object is a blob whose text is a version without keys
pub record IsVersion (objects : Objects) (object : Name) : Type 0 where
  pub text : List ℕ
  pub version : Version
  pub holds : blob_at objects object ≡ Some text
  pub reads : version_of text ≡ Some version
  pub no_keys : version.has_keys ≡ false

-- a tree names such an object as its version
pub record TreeHas (objects : Objects) (tree : Name) : Type 0 where
  pub text : List ℕ
  pub version : Version
  pub holds : text_in objects tree ≡ Some text
  pub reads : version_of text ≡ Some version
  pub no_keys : version.has_keys ≡ false

-- what is known is so
pub record AreKnown (objects : Objects) (known : Known) : Type 0 where
  pub trees : AllByRecursion (TreeHas objects) known.trees.keys
  pub objects_are : AllByRecursion (IsVersion objects) known.objects.keys

-- names are in the order of their bytes
abbrev pub by_bytes : Name → Name → Ordering
by_bytes one two = slice_cmp nat_cmp one.bytes two.bytes

-- whether a name is among these
abbrev pub knows : BTreeSet Name → Name → Bool
knows names name = contains by_bytes names name

-- what was known is known
pub record StaysKnown (old new : Known) : Type 0 where
  pub trees : (tree : Name) → IsTrue (knows old.trees tree) → IsTrue (knows new.trees tree)
  pub objects : (object : Name) → IsTrue (knows old.objects object) → IsTrue (knows new.objects object)

-- how many of these names are not known
abbrev pub unknown : List Name → BTreeSet Name → ℕ
unknown names known = count_by (λ name. not (knows known name)) names

-- how many of these trees and of these versions are not known, and so are still to be read
abbrev pub unread : List Name → List Name → Known → ℕ
unread trees versions known = unknown trees known.trees + unknown versions known.objects

-- a commit's tree is one of these trees, and what the tree names as its version one of these versions
pub record IsFrom (objects : Objects) (trees versions : List Name) (link : Link) : Type 0 where
  pub tree : Contains trees link.tree
  pub version : (object : Name) → NamesVersion objects link.tree object → Contains versions object

-- so it is with each of these commits
abbrev pub AreFrom : Objects → List Name → List Name → List Link → Type 0
AreFrom objects trees versions links = (link : Link) → Contains links link → IsFrom objects trees versions link

-- ---- how many objects are read, before and after

-- of these commits: at most one object for each of their trees and of their versions, however many commits share it
abbrev pub ReadsDistinct : Objects → List Link → ℕ → ℕ → Type 0
ReadsDistinct objects links before after = (trees versions : List Name) → AreFrom objects trees versions links
    → after ≤ before + (length trees + length versions)

-- the same behind a version that was judged, whose tree and object were read before
abbrev pub ReadsLater : Objects → Judged → List Link → ℕ → ℕ → Type 0
ReadsLater objects first links before after = (trees versions : List Name) → IsJudged objects first
    → Contains trees first.tree → Contains versions first.object → AreFrom objects trees versions links
    → after + 2 ≤ before + (length trees + length versions)

-- of the whole walk from a head: at most one object for each commit, too
abbrev pub ReadsWalk : Objects → Name → ℕ → ℕ → Type 0
ReadsWalk objects head before after = (walk : List Link) (trees versions : List Name) → Walked objects head walk
    → AreFrom objects trees versions walk → after ≤ before + (length walk + length trees + length versions)

-- of these trees and versions: no more than are known now and were not before
abbrev pub ReadsNew : List Name → List Name → Known → Known → ℕ → ℕ → Type 0
ReadsNew trees versions old new before after = after + unread trees versions new ≤ before + unread trees versions old

-- so it is with a commit
abbrev pub LearnsOne : Objects → Link → Known → Known → ℕ → ℕ → Type 0
LearnsOne objects link old new before after = (trees versions : List Name) → IsFrom objects trees versions link
    → ReadsNew trees versions old new before after

-- and with these commits
abbrev pub LearnsEach : Objects → List Link → Known → Known → ℕ → ℕ → Type 0
LearnsEach objects links old new before after = (trees versions : List Name) → AreFrom objects trees versions links
    → ReadsNew trees versions old new before after

-- ---- answers

-- each of these commits has a version
abbrev pub EachHas : Objects → List Link → Type 0
EachHas objects links = All (λ link. TreeHas objects link.tree) links

abbrev pub ObjectAnswers : Objects → Link → Name → Result (Unit {0}) IdentityFault → Type 0
ObjectAnswers objects link object (Ok _) = IsVersion objects object
ObjectAnswers objects link object (Err f) = Refused (NoVersion objects link) f

abbrev pub KnowingAnswers : Objects → Link → Known → Result (Unit {0}) IdentityFault → Type 0
KnowingAnswers objects link known (Ok _) = TreeHas objects link.tree × AreKnown objects known
KnowingAnswers objects link known (Err f) = Refused (NoVersion objects link) f

abbrev pub EachAnswers : Objects → List Link → Result (Unit {0}) IdentityFault → Type 0
EachAnswers objects links (Ok _) = EachHas objects links
EachAnswers objects links (Err f) = Refused (OneRefused objects links) f
