-- The answers to the reads of commits and chains, each with what is so of the objects.
use Rattle.std.specs.Prelude.{◌≡◌, ◌≢◌, ◌⊎◌, ◌+◌, ⊤, ℕ, false, IsTrue, List, [], ◌∷◌, length, Contains, Vec, Option, Some, None, Result, Ok, Err, option_and_then}
use Rattle.std.specs.declared.alloc.Global.{Global}
use Rattle.gb_text.specs.declared.id.Id.{Id}
use Rattle.gb_text.specs.declared.id.Name.{Name}
use Rattle.object_store.specs.Held.{Objects, IsDamaged, IsLarge}
use Rattle.object_store.specs.declared.read.TheConstants.{MOST_BYTES}
use Rattle.commit_walk.specs.declared.chain.Link.{Link}
use Rattle.identity.specs.Version.{version_of, version_id}
use Rattle.identity.specs.Commits.{NamesVersion, TreeNeeds, IsBad, HasVersion, HasNoVersion, text_in}
use Rattle.identity.specs.declared.commit.Judged.{Judged}
use Rattle.identity.specs.Faults.{Refused}
use Rattle.identity.specs.Persons.{IdentityFaultHolds, IsChain, Shows}
use Rattle.identity.specs.declared.version.Version.{Version}
use Rattle.identity.specs.declared.chain.Person.{Person}
use Rattle.identity.specs.declared.fault.IdentityFault.{IdentityFault}
use Rattle.identity.specs.declared.fault.IdentityFault.TheVariants as fault

-- ---- one commit

-- a commit with this tree has this version, and the version has no keys
pub record VersionIn (objects : Objects) (link : Link) (text : List ℕ) (version : Version) : Type 0 where
  pub holds : text_in objects link.tree ≡ Some text
  pub reads : version_of text ≡ Some version
  pub no_keys : version.has_keys ≡ false

-- what keeps a commit with this tree from having one
abbrev pub NoVersion : Objects → Link → IdentityFault → Type 0
NoVersion objects link (fault.Missing n) = TreeNeeds objects link.tree n × (objects n ≡ None)
NoVersion objects link (fault.Damaged n) = TreeNeeds objects link.tree n × IsDamaged objects n
NoVersion objects link (fault.TooLarge count) = (count ≡ MOST_BYTES + 1) × (n : Name) × TreeNeeds objects link.tree n × IsLarge (objects n)
NoVersion objects link (fault.BadVersion n) = (n ≡ link.name) × IsBad objects link.tree
NoVersion objects link (fault.KeysPresent n) = (n ≡ link.name) × (version : Version) × (option_and_then version_of (text_in objects link.tree) ≡ Some version) × IsTrue version.has_keys
NoVersion objects link _ = ⊥

abbrev pub TextAnswers : Objects → Link → Result (List ℕ) IdentityFault → Type 0
TextAnswers objects link (Ok text) = text_in objects link.tree ≡ Some text
TextAnswers objects link (Err f) = Refused (NoVersion objects link) f

-- what a text is worth as the version of a commit
abbrev pub ReadingAnswers : Name → List ℕ → Result Version IdentityFault → Type 0
ReadingAnswers name text (Ok version) = (version_of text ≡ Some version) × (version.has_keys ≡ false)
ReadingAnswers name text (Err fault.Memory) = ⊤
ReadingAnswers name text (Err (fault.BadVersion n)) = (n ≡ name) × (version_of text ≡ None)
ReadingAnswers name text (Err (fault.KeysPresent n)) = (n ≡ name) × (version : Version) × (version_of text ≡ Some version) × IsTrue version.has_keys
ReadingAnswers name text (Err _) = ⊥

-- what a version that was judged says is so: the tree names the object, whose blob is the text of the version without keys
pub record IsJudged (objects : Objects) (judged : Judged) : Type 0 where
  pub named : NamesVersion objects judged.tree judged.object
  pub text : List ℕ
  pub holds : text_in objects judged.tree ≡ Some text
  pub reads : version_of text ≡ Some judged.version
  pub no_keys : judged.version.has_keys ≡ false

abbrev pub NameAnswers : Objects → Link → Result Name IdentityFault → Type 0
NameAnswers objects link (Ok object) = NamesVersion objects link.tree object
NameAnswers objects link (Err f) = Refused (NoVersion objects link) f

abbrev pub JudgedAnswers : Objects → Link → Result Judged IdentityFault → Type 0
JudgedAnswers objects link (Ok judged) = (judged.tree ≡ link.tree) × IsJudged objects judged
JudgedAnswers objects link (Err f) = Refused (NoVersion objects link) f

-- the answer to a reading of the head alone
abbrev pub LastAnswers : Objects → Id → Name → Result Person IdentityFault → Type 0
LastAnswers objects id head (Ok person) = Shows objects id head person
LastAnswers objects id head (Err f) = Refused (HasNoVersion objects head) f

-- ---- whole chains

-- the first version, where its text has the id
pub record RootHas (objects : Objects) (id : Id) (root : Link) (first : Version) : Type 0 where
  pub text : List ℕ
  pub is : VersionIn objects root text first
  pub is_id : version_id text ≡ id

-- its text has another id
pub record RootDiffers (objects : Objects) (id : Id) (root : Link) (found : Id) : Type 0 where
  pub text : List ℕ
  pub version : Version
  pub is : VersionIn objects root text version
  pub found_is : found ≡ version_id text
  pub other : found ≢ id

abbrev pub RootRefused : Objects → Id → Link → IdentityFault → Type 0
RootRefused objects id root (fault.WrongId found) = RootDiffers objects id root found
RootRefused objects id root f = NoVersion objects root f

abbrev pub RootAnswers : Objects → Id → Link → Result Judged IdentityFault → Type 0
RootAnswers objects id root (Ok first) = RootHas objects id root first.version × IsJudged objects first
RootAnswers objects id root (Err f) = Refused (RootRefused objects id root) f

-- from one version through those of these commits to the last
abbrev pub Leads : Objects → Version → List Link → Version → Type 0
Leads objects first [] last = last ≡ first
Leads objects first (link ∷ links) last = (next : Version) × ((text : List ℕ) × VersionIn objects link text next) × Leads objects next links last

-- a commit among these has no version
abbrev pub OneRefused : Objects → List Link → IdentityFault → Type 0
OneRefused objects links f = (link : Link) × Contains links link × NoVersion objects link f

abbrev pub LaterAnswers : Objects → Version → List Link → Result Version IdentityFault → Type 0
LaterAnswers objects first later (Ok last) = Leads objects first later last
LaterAnswers objects first later (Err f) = Refused (OneRefused objects later) f

-- these commits have versions without keys, the first of this id, the last of them this one
abbrev pub Checked : Objects → Id → List Link → Version → Type 0
Checked objects id [] last = ⊥
Checked objects id (root ∷ later) last = (first : Version) × RootHas objects id root first × Leads objects first later last

-- what is wrong with them
abbrev pub CheckRefused : Objects → Id → List Link → IdentityFault → Type 0
CheckRefused objects id [] f = ⊥
CheckRefused objects id (root ∷ later) f = RootRefused objects id root f ⊎ OneRefused objects later f

abbrev pub CheckAnswers : Objects → Id → List Link → Result (Option Version) IdentityFault → Type 0
CheckAnswers objects id walk (Ok None) = walk ≡ []
CheckAnswers objects id walk (Ok (Some last)) = Checked objects id walk last
CheckAnswers objects id walk (Err f) = Refused (CheckRefused objects id walk) f

-- a whole chain of these commits, whose head has this version
pub record HasChain (objects : Objects) (id : Id) (head : Name) (walk : List Link) (last : Version) : Type 0 where
  pub chain : IsChain objects id head
  pub walks : walk ≡ chain.walk
  pub last_is : HasVersion objects head last

abbrev pub WholeAnswers : Objects → Id → Name → Result (Vec Link Global × Version) IdentityFault → Type 0
WholeAnswers objects id head (Ok whole) = HasChain objects id head whole.0.items whole.1
WholeAnswers objects id head (Err f) = Refused (IdentityFaultHolds objects id head) f

-- the answer to a reading of the whole chain
abbrev pub ChainAnswers : Objects → Id → Name → Result Person IdentityFault → Type 0
ChainAnswers objects id head (Ok person) = IsChain objects id head × Shows objects id head person
ChainAnswers objects id head (Err f) = Refused (IdentityFaultHolds objects id head) f

-- the answer to a count of its commits
abbrev pub CountAnswers : Objects → Id → Name → Result ℕ IdentityFault → Type 0
CountAnswers objects id head (Ok count) = (chain : IsChain objects id head) × (count ≡ length chain.walk)
CountAnswers objects id head (Err f) = Refused (IdentityFaultHolds objects id head) f
