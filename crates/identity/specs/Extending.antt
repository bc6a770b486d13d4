-- What a new version does to the chain of its identity.
use Rattle.std.specs.Prelude.{◌≡◌, ◌<◌, List, [], ◌∷◌, ◌++◌, length, Option, Some, None}
use Rattle.gb_text.specs.declared.id.Id.{Id}
use Rattle.gb_text.specs.declared.id.Name.{Name}
use Rattle.object_store.specs.Held.{Objects}
use Rattle.commit_walk.specs.declared.chain.Link.{Link}
use Rattle.commit_walk.specs.declared.below.TheConstants.{MOST_COMMITS}
use Rattle.identity.specs.Version.{person_name}
use Rattle.identity.specs.Persons.{IsChain, Shows}
use Rattle.identity.specs.declared.chain.Person.{Person}
use Rattle.identity.specs.declared.making.Made.{Made}
use Rattle.identity.specs.declared.version.Version.{Version}

-- the person that a version at a head shows
abbrev pub person_by : Id → Name → Version → Person
person_by id head version = record { id = id; head = head; name = person_name version; email = version.email }

-- the chain from a head is that from the head below it and one commit more, and shows the person of a version
pub record IsLonger (objects : Objects) (id : Id) (walk : List Link) (head : Name) (version : Version) : Type 0 where
  pub chain : IsChain objects id head
  pub tree : Name
  pub longer : chain.walk ≡ walk ++ record { name = head; tree = tree } ∷ []
  pub shows : Shows objects id head (person_by id head version)

-- A new version begins the chain of its identity, or goes on with the chain from its parent: there is room for one more.
abbrev pub Extends : Objects → Objects → Option Name → Version → Made → Type 0
Extends old new None version made = IsLonger new made.id [] made.head version
Extends old new (Some head) version made = (id : Id) (chain : IsChain old id head) → length chain.walk < MOST_COMMITS → IsLonger new id chain.walk made.head version
