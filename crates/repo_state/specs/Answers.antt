-- The answers to reads and writes of a folder's state, each with what is so of the files. Want of memory and
-- faults of the disk have no cause here.
use Rattle.std.specs.Prelude.{◌≡◌, ◌≤◌, ◌+◌, ◌*◌, ◌⊎◌, ⊤, ℕ, List, ◌∷◌, ◌++◌, reverse, length, map, Vec, Option, Some, None, Result, Ok, Err}
use Rattle.std.specs.declared.alloc.Global.{Global}
use Rattle.gb_text.specs.Digits.{id_of}
use Rattle.gb_text.specs.Folder.{joined}
use Rattle.gb_text.specs.declared.id.Id.{Id}
use Rattle.gb_text.specs.declared.id.Name.{Name}
use Rattle.gb_store.specs.Files.{Files, History, files_of}
use Rattle.gb_store.specs.Moments.{MaybeWrote, WroteSome}
use Rattle.gb_store.specs.declared.fault.StoreFault.{StoreFault}
use Rattle.gb_store.specs.declared.fault.StoreFault.TheVariants as store
use Rattle.gb_store.specs.declared.store.Change.{Change}
use Rattle.object_store.specs.Held.{Objects, objects_in}
use Rattle.ref_store.specs.Refs.{Ref, Absent, Head, Bad}
use Rattle.ref_store.specs.declared.listing.RefEntry.{RefEntry}
use Rattle.ref_store.specs.declared.listing.RefFound.{RefFound}
use Rattle.ref_store.specs.declared.listing.RefFound.TheVariants as found
use Rattle.identity.specs.Commits.{HasNoVersion}
use Rattle.identity.specs.Persons.{Shows}
use Rattle.identity.specs.declared.chain.Person.{Person}
use Rattle.identity.specs.declared.fault.IdentityFault.{IdentityFault}
use Rattle.repo_state.specs.Clocks.{clock_at, see_writes}
use Rattle.repo_state.specs.Finds.{Finder, Finds, FindsNoId, One}
use Rattle.repo_state.specs.Sides.{AreIds, IsBadRef, IsFirst, head_at, ref_place}
use Rattle.repo_state.specs.Users.{UserFound, NoUser, User, BadUser, user_at, user_place, user_write}
use Rattle.repo_state.specs.People.{AllShow}
use Rattle.repo_state.specs.declared.clocks.ClockFile.{ClockFile}
use Rattle.repo_state.specs.declared.refs.EntityRef.{EntityRef}
use Rattle.repo_state.specs.declared.side.HeadEntry.{HeadEntry}
use Rattle.repo_state.specs.declared.side.Side.{Side}
use Rattle.repo_state.specs.declared.side.Side.TheVariants as side
use Rattle.repo_state.specs.declared.stop.FindStop.{FindStop}
use Rattle.repo_state.specs.declared.stop.FindStop.TheVariants as find
use Rattle.repo_state.specs.declared.stop.ReadStop.{ReadStop}
use Rattle.repo_state.specs.declared.stop.ReadStop.TheVariants as stop

-- a value that is so, or a file that is damaged so
abbrev pub Reads : {T : Type 0} → (T → Type 0) → (List ℕ → Type 0) → Result T ReadStop → Type 0
Reads Is IsDamaged (Ok value) = Is value
Reads Is IsDamaged (Err stop.Memory) = ⊤
Reads Is IsDamaged (Err stop.Disk) = ⊤
Reads Is IsDamaged (Err (stop.Damaged path)) = IsDamaged path

-- the head of a ref, or none where no ref stands
abbrev pub IsHeadAt : Files → List ℕ → Side → Id → Option Name → Type 0
IsHeadAt files folder of id None = head_at files folder of id ≡ Absent
IsHeadAt files folder of id (Some name) = head_at files folder of id ≡ Head name

-- the first ref of the side, in the order of ids, that is no ref text stands at this path
abbrev pub HasBadRef : Files → List ℕ → Side → List ℕ → Type 0
HasBadRef files folder of path = (id : Id) × IsFirst (λ one. head_at files folder of one ≡ Bad) id × (path ≡ joined folder (ref_place of id))

-- the user, or none where no user file stands
abbrev pub IsUser : Files → List ℕ → Option Id → Type 0
IsUser files folder None = user_at files folder ≡ NoUser
IsUser files folder (Some id) = user_at files folder ≡ User id

-- the user file, at this path, names no local identity
abbrev pub IsBadUser : Files → List ℕ → List ℕ → Type 0
IsBadUser files folder path = (path ≡ joined folder user_place) × (user_at files folder ≡ BadUser)

-- an identity's ref is no ref text, or its head has no version
abbrev pub IsBadPerson : Files → List ℕ → Id → Type 0
IsBadPerson files folder id = (head_at files folder side.Identities id ≡ Bad)
    ⊎ ((head : Name) × (head_at files folder side.Identities id ≡ Head head) × (fault : IdentityFault) × HasNoVersion (objects_in files folder) head fault)

-- the ref of the first identity, in the order of ids, of which this is so stands at this path
abbrev pub HasBadPerson : Files → List ℕ → List ℕ → Type 0
HasBadPerson files folder path = (id : Id) × IsFirst (IsBadPerson files folder) id × (path ≡ joined folder (ref_place side.Identities id))

-- at most three objects were read for each local identity, or none
abbrev pub ReadsPeople : Files → List ℕ → ℕ → ℕ → Type 0
ReadsPeople files folder old new =
    (new ≡ old) ⊎ ((ids : List Id) × AreIds files folder side.Identities ids × (new ≤ old + 3 * length ids))

-- the answer to a write, and whether it was made
abbrev pub PutAnswers : Change → History → History → Result Unit StoreFault → Type 0
PutAnswers change old new (Ok done) = new ≡ change ∷ old
PutAnswers change old new (Err store.Memory) = new ≡ old
PutAnswers change old new (Err store.Failed) = MaybeWrote change old new

-- the answer to a clock that sees a number: its write was made where the clock changes, or was not
abbrev pub SeeAnswers : List ℕ → ClockFile → ℕ → History → History → Result Unit StoreFault → Type 0
SeeAnswers folder which number old new (Ok done) = new ≡ reverse (see_writes folder which (clock_at (files_of old) folder which) number) ++ old
SeeAnswers folder which number old new (Err fault) = WroteSome (see_writes folder which (clock_at (files_of old) folder which) number) old new

-- a write of the user file, of this identity
abbrev pub PutsUser : List ℕ → Id → Files → Change → Type 0
PutsUser folder id files change = change ≡ user_write folder id

-- the user with its head, or none where no user file stands; or the path of the user file or of the user's ref, which is damaged
abbrev pub FindsUser : Files → List ℕ → Result (Option HeadEntry) ReadStop → Type 0
FindsUser files folder (Ok None) = user_at files folder ≡ NoUser
FindsUser files folder (Ok (Some e)) = (user_at files folder ≡ User e.id) × (head_at files folder side.Identities e.id ≡ Head e.name)
FindsUser files folder (Err stop.Memory) = ⊤
FindsUser files folder (Err stop.Disk) = ⊤
FindsUser files folder (Err (stop.Damaged path)) =
    IsBadUser files folder path ⊎ ((id : Id) × (user_at files folder ≡ User id) × IsBadRef files folder side.Identities id path)

-- ---- parts of the reads

-- what a ref that stands is, by the head that was read of it: none where it is no ref text
abbrev pub IsRefOf : Ref → Option Name → Type 0
IsRefOf ref None = ref ≡ Bad
IsRefOf ref (Some name) = ref ≡ Head name

-- the ref of an id, or that none stands
abbrev pub EntityAnswers : Files → List ℕ → Side → Id → Result (Option EntityRef) StoreFault → Type 0
EntityAnswers files folder of id (Ok None) = head_at files folder of id ≡ Absent
EntityAnswers files folder of id (Ok (Some entity)) = (entity.id ≡ id) × IsRefOf (head_at files folder of id) entity.head
EntityAnswers files folder of id (Err fault) = ⊤

-- the id of a ref that a word finds, whatever the ref holds
abbrev pub ref_finder : Side → Files → List ℕ → List ℕ → Finder EntityRef
ref_finder of files folder word = record {
  Found = λ entity. Finds files folder of word (One entity.id) × IsRefOf (head_at files folder of entity.id) entity.head;
  Fails = FindsNoId files folder of word;
}

-- the id to look for: the one that the word is, or the one that it finds; or why it finds none
abbrev pub SoughtAnswers : Files → List ℕ → Side → List ℕ → Result Id FindStop → Type 0
SoughtAnswers files folder of word (Ok id) = (id_of word ≡ Some id) ⊎ Finds files folder of word (One id)
SoughtAnswers files folder of word (Err find.Memory) = ⊤
SoughtAnswers files folder of word (Err find.Disk) = ⊤
SoughtAnswers files folder of word (Err (find.Missed why)) = FindsNoId files folder of word why

-- the head of a ref that stands, or `Damaged` for one that is no ref text
abbrev pub WholeAnswers : List ℕ → Side → EntityRef → Result HeadEntry ReadStop → Type 0
WholeAnswers folder of entity (Ok e) = (e.id ≡ entity.id) × (entity.head ≡ Some e.name)
WholeAnswers folder of entity (Err stop.Memory) = ⊤
WholeAnswers folder of entity (Err stop.Disk) = ⊥
WholeAnswers folder of entity (Err (stop.Damaged path)) = (entity.head ≡ None) × (path ≡ joined folder (ref_place of entity.id))

-- `Damaged` with the path of an id's ref, unless memory ran out
abbrev pub DamagedRef : List ℕ → Side → Id → ReadStop → Type 0
DamagedRef folder of id stop.Memory = ⊤
DamagedRef folder of id stop.Disk = ⊥
DamagedRef folder of id (stop.Damaged path) = path ≡ joined folder (ref_place of id)

-- the answer to a read of the user and its ref, by the user that a file at a path names
abbrev pub UserAnswers : Files → List ℕ → List ℕ → UserFound → Result (Option EntityRef) ReadStop → Type 0
UserAnswers files folder path user (Ok None) = user ≡ NoUser
UserAnswers files folder path user (Ok (Some entity)) = (user ≡ User entity.id) × IsRefOf (head_at files folder side.Identities entity.id) entity.head
UserAnswers files folder path user (Err stop.Memory) = ⊤
UserAnswers files folder path user (Err stop.Disk) = ⊤
UserAnswers files folder path user (Err (stop.Damaged at)) = (at ≡ path) × (user ≡ BadUser)

-- the head of an entry
abbrev pub as_entry : HeadEntry → RefEntry
as_entry e = record { id = e.id; found = found.Head e.name }

-- the head of a ref, which reads; or the path of one that is no ref text
abbrev pub HeadOf : List ℕ → Side → RefEntry → Result HeadEntry ReadStop → Type 0
HeadOf folder of entry (Ok head) = as_entry head ≡ entry
HeadOf folder of entry (Err stop.Memory) = ⊤
HeadOf folder of entry (Err stop.Disk) = ⊥
HeadOf folder of entry (Err (stop.Damaged path)) = (entry.found ≡ found.Bad) × (path ≡ joined folder (ref_place of entry.id))

-- refs that read, and behind them this one
abbrev pub IsBehind : List RefEntry → List HeadEntry → RefEntry → Type 0
IsBehind entries heads entry = (rest : List RefEntry) × (entries ≡ map as_entry heads ++ entry ∷ rest)

-- the heads of these refs, all of which read; or the path of the first that is no ref text
abbrev pub HeadsOf : List ℕ → Side → List RefEntry → Result (Vec HeadEntry Global) ReadStop → Type 0
HeadsOf folder of entries (Ok heads) = map as_entry heads.items ≡ entries
HeadsOf folder of entries (Err stop.Memory) = ⊤
HeadsOf folder of entries (Err stop.Disk) = ⊥
HeadsOf folder of entries (Err (stop.Damaged path)) =
    (id : Id) × (heads : List HeadEntry) × IsBehind entries heads (record { id = id; found = found.Bad }) × (path ≡ joined folder (ref_place of id))

-- the head that a person was read of
abbrev pub head_shown : Person → HeadEntry
head_shown person = record { id = person.id; name = person.head }

-- a ref is no ref text, or its head has no version
abbrev pub IsBadFound : Objects → RefFound → Type 0
IsBadFound objects found.Bad = ⊤
IsBadFound objects (found.Head name) = (fault : IdentityFault) × HasNoVersion objects name fault

-- the person of an identity's head, or its ref's path where the head has no version
abbrev pub PersonAt : Files → List ℕ → HeadEntry → Result Person ReadStop → Type 0
PersonAt files folder e (Ok person) = Shows (objects_in files folder) e.id e.name person
PersonAt files folder e (Err stop.Memory) = ⊤
PersonAt files folder e (Err stop.Disk) = ⊤
PersonAt files folder e (Err (stop.Damaged path)) =
    (path ≡ joined folder (ref_place side.Identities e.id)) × (fault : IdentityFault) × HasNoVersion (objects_in files folder) e.name fault

-- the person of an identity's ref, or the ref's path where it is no ref text or its head has no version
abbrev pub PersonOf : Files → List ℕ → RefEntry → Result Person ReadStop → Type 0
PersonOf files folder entry (Ok person) = (as_entry (head_shown person) ≡ entry) × Shows (objects_in files folder) person.id person.head person
PersonOf files folder entry (Err stop.Memory) = ⊤
PersonOf files folder entry (Err stop.Disk) = ⊤
PersonOf files folder entry (Err (stop.Damaged path)) =
    (path ≡ joined folder (ref_place side.Identities entry.id)) × IsBadFound (objects_in files folder) entry.found

-- people of the heads that they were read of, which are those of the first of some refs
pub record ArePersons (objects : Objects) (entries : List RefEntry) (people : List Person) : Type 0 where
  pub heads : map as_entry (map head_shown people) ≡ entries
  pub shown : AllShow objects (map head_shown people) people

-- the people of these refs, or the path of the first that is damaged
abbrev pub PeopleOf : Files → List ℕ → List RefEntry → Result (Vec Person Global) ReadStop → Type 0
PeopleOf files folder entries (Ok people) = ArePersons (objects_in files folder) entries people.items
PeopleOf files folder entries (Err stop.Memory) = ⊤
PeopleOf files folder entries (Err stop.Disk) = ⊤
PeopleOf files folder entries (Err (stop.Damaged path)) =
    (people : List Person) × (entry : RefEntry) × IsBehind entries (map head_shown people) entry × AllShow (objects_in files folder) (map head_shown people) people
    × (path ≡ joined folder (ref_place side.Identities entry.id)) × IsBadFound (objects_in files folder) entry.found
