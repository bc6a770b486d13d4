-- Persons: chains of version commits from one head, whom they show, and what may be wrong with them.
use Rattle.std.specs.Prelude.{◌≡◌, ◌≢◌, ◌⊎◌, ◌+◌, ◌≤◌, ℕ, List, [], length, Some}
use Rattle.gb_text.specs.declared.id.Id.{Id}
use Rattle.gb_text.specs.declared.id.Name.{Name}
use Rattle.git_object.specs.declared.commit.Commit.{Commit}
use Rattle.object_store.specs.Held.{Objects}
use Rattle.commit_walk.specs.Chain.{Walked, Meets, MeetsCommit, MeetsMerge, IsTooLong}
use Rattle.commit_walk.specs.declared.chain.Link.{Link}
use Rattle.commit_walk.specs.declared.below.TheConstants.{MOST_COMMITS}
use Rattle.identity.specs.Version.{version_of, version_id, person_name}
use Rattle.identity.specs.Commits.{version_text_at, HasVersion, HasNoVersion}
use Rattle.identity.specs.declared.version.Version.{Version}
use Rattle.identity.specs.declared.chain.Person.{Person}
use Rattle.identity.specs.declared.fault.IdentityFault.{IdentityFault}
use Rattle.identity.specs.declared.fault.IdentityFault.TheVariants as fault

-- the walk from a head ends at a commit without parents, whose version has this text
pub record BeginsWith (objects : Objects) (head : Name) (text : List ℕ) : Type 0 where
  pub root : Name
  pub commit : Commit
  pub meets : MeetsCommit objects head root commit
  pub no_parents : commit.parents ≡ []
  pub holds : version_text_at objects root ≡ Some text
  pub version : Version
  pub reads : version_of text ≡ Some version

-- The chain of an identity: a whole walk from the head of at most 65,536 commits, each with a version without keys,
-- and the id is that of the first version's text.
pub record IsChain (objects : Objects) (id : Id) (head : Name) : Type 0 where
  pub walk : List Link
  pub walked : Walked objects head walk
  pub within : length walk ≤ MOST_COMMITS
  pub each : (name : Name) → Meets objects head name → (version : Version) × HasVersion objects name version
  pub text : List ℕ
  pub begins : BeginsWith objects head text
  pub is_id : version_id text ≡ id

-- the head has a version without keys, which shows this person
pub record Shows (objects : Objects) (id : Id) (head : Name) (person : Person) : Type 0 where
  pub version : Version
  pub has : HasVersion objects head version
  pub is : person ≡ record { id = id; head = head; name = person_name version; email = version.email }

-- a commit that the walk from a head meets has no version
abbrev pub SomeHasNoVersion : Objects → Name → IdentityFault → Type 0
SomeHasNoVersion objects head f = (name : Name) × Meets objects head name × HasNoVersion objects name f

-- What is wrong with the chain of an identity from a head, one case a fault and with no order among them.
abbrev pub IdentityFaultHolds : Objects → Id → Name → IdentityFault → Type 0
IdentityFaultHolds objects id head (fault.NotLinear name) = MeetsMerge objects head name
IdentityFaultHolds objects id head (fault.WrongId found) = (text : List ℕ) × BeginsWith objects head text × (found ≡ version_id text) × (found ≢ id)
IdentityFaultHolds objects id head (fault.TooLarge count) = ((count ≡ MOST_COMMITS + 1) × IsTooLong objects head) ⊎ SomeHasNoVersion objects head (fault.TooLarge count)
IdentityFaultHolds objects id head f = SomeHasNoVersion objects head f
