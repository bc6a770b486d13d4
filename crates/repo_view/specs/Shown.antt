-- What is shown of a folder: a bug by its operations in order, and the people.
use Rattle.std.specs.Prelude.{◌≡◌, ◌⊎◌, ◌↔◌, ⊤, ℕ, List, [], ◌∷◌, Option, Result, Ok, Err}
use Rattle.std.specs.List.{AllByRecursion}
use Rattle.gb_text.specs.Folder.{joined}
use Rattle.gb_text.specs.declared.id.Id.{Id}
use Rattle.gb_store.specs.Files.{Files}
use Rattle.object_store.specs.Held.{objects_in}
use Rattle.bug_ops.specs.Kind.{bug_kind}
use Rattle.bug_ops.specs.declared.op.BugOp.{BugOp}
use Rattle.snapshot.specs.LastMention.{IsBugList, author_of, snapshot_of}
use Rattle.dag_entity.specs.Entities.{IsOperationCommit, IsOperationList}
use Rattle.dag_entity.specs.declared.entity.Entity.{Entity}
use Rattle.dag_entity.specs.declared.entity.Placed.{Placed}
use Rattle.identity.specs.declared.chain.Person.{Person}
use Rattle.person_names.specs.Named.{name_among}
use Rattle.render.specs.Show.{show_text_of}
use Rattle.render.specs.Users.{users_text_of}
use Rattle.repo_state.specs.Answers.{HasBadPerson, IsBadUser, IsUser, ReadsPeople}
use Rattle.repo_state.specs.Bugs.{FindsBug, IsBug, IsDamagedBug, ReadsBelow}
use Rattle.repo_state.specs.People.{ArePeople}
use Rattle.repo_state.specs.Finds.{Finds, Many, Nothing, One}
use Rattle.repo_state.specs.Sides.{ref_place}
use Rattle.repo_state.specs.declared.side.HeadEntry.{HeadEntry}
use Rattle.repo_state.specs.declared.side.Side.TheVariants as side
use Rattle.repo_state.specs.declared.stop.FindStop.{FindStop}
use Rattle.repo_state.specs.declared.stop.FindStop.TheVariants as stop
use Rattle.repo_state.specs.declared.stop.Missed.TheVariants as missed
use Rattle.repo_state.specs.declared.stop.ReadStop.{ReadStop}
use Rattle.repo_state.specs.declared.stop.ReadStop.TheVariants as read

-- ---- a bug

-- a bug as text, with which nothing is wrong: by the operations of the commits below its head, in the order of edit clock,
-- pack id and name, of which the first alone creates; each thing as its last mention has it; and with the names of the folder's people
pub record IsShown (files : Files) (folder : List ℕ) (bug : HeadEntry) (text : List ℕ) : Type 0 where
  pub entity : Entity BugOp
  pub is_bug : IsBug files folder bug entity
  pub ops : List BugOp
  pub are : IsOperationList bug_kind (objects_in files folder) (bug.name ∷ []) ops
  pub begins : IsBugList ops
  pub people : List Person
  pub are_people : ArePeople files folder people
  pub is : text ≡ show_text_of (snapshot_of ops) people

-- the people of two folders have the same name for the author of each operation of a bug
abbrev pub AgreeOnAuthors : Files → List ℕ → HeadEntry → Files → List ℕ → Type 0
AgreeOnAuthors files folder bug others place = (ops : List BugOp) (people persons : List Person)
    → IsOperationList bug_kind (objects_in files folder) (bug.name ∷ []) ops → ArePeople files folder people → ArePeople others place persons
    → AllByRecursion (λ o. name_among people (author_of o) ≡ name_among persons (author_of o)) ops

-- two bugs have the same operation commits: the same names with the same packs, whatever the edges between the commits
abbrev pub HaveSameCommits : Files → List ℕ → HeadEntry → Files → List ℕ → HeadEntry → Type 0
HaveSameCommits files folder bug others place top = (placed : Placed BugOp)
    → IsOperationCommit bug_kind (objects_in files folder) (bug.name ∷ []) placed ↔ IsOperationCommit bug_kind (objects_in others place) (top.name ∷ []) placed

-- the answer to `show`: the bug that the word finds as text; or why it is none: a person is told as damaged only where nothing is wrong with the bug. Want of
-- memory and faults of the disk have no cause here
abbrev pub ShowAnswers : Files → List ℕ → List ℕ → Result (List ℕ) FindStop → Type 0
ShowAnswers files folder word (Ok text) = (bug : HeadEntry) × FindsBug files folder word bug × IsShown files folder bug text
ShowAnswers files folder word (Err stop.Memory) = ⊤
ShowAnswers files folder word (Err stop.Disk) = ⊤
ShowAnswers files folder word (Err (stop.Missed missed.NotFound)) = Finds files folder side.Bugs word Nothing
ShowAnswers files folder word (Err (stop.Missed (missed.Ambiguous least next))) = Finds files folder side.Bugs word (Many least next)
ShowAnswers files folder word (Err (stop.Missed (missed.Damaged path))) =
    ((id : Id) × Finds files folder side.Bugs word (One id) × (path ≡ joined folder (ref_place side.Bugs id)) × IsDamagedBug files folder id)
    ⊎ ((bug : HeadEntry) × FindsBug files folder word bug × (entity : Entity BugOp) × IsBug files folder bug entity × HasBadPerson files folder path)

-- none was read; or at most three objects for each of some commits below the head of the bug that the word finds, and three for each person
abbrev pub ReadsShow : Files → List ℕ → List ℕ → ℕ → ℕ → Type 0
ReadsShow files folder word before after =
    (after ≡ before)
    ⊎ ((bug : HeadEntry) × FindsBug files folder word bug × (between : ℕ) × ReadsBelow files folder bug before between × ReadsPeople files folder between after)

-- ---- the people

-- the answer to `users`: the people of the folder and its user as text; or the path of a file that is damaged: that of the user only where no person is
abbrev pub UsersAnswers : Files → List ℕ → Result (List ℕ) ReadStop → Type 0
UsersAnswers files folder (Ok text) = (people : List Person) × ArePeople files folder people × (user : Option Id) × IsUser files folder user × (text ≡ users_text_of people user)
UsersAnswers files folder (Err read.Memory) = ⊤
UsersAnswers files folder (Err read.Disk) = ⊤
UsersAnswers files folder (Err (read.Damaged path)) =
    HasBadPerson files folder path ⊎ ((people : List Person) × ArePeople files folder people × IsBadUser files folder path)
