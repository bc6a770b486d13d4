-- The runs that make and edit identities, and the folders in which they do.
use Rattle.std.specs.Prelude.{◌≡◌, ◌≢◌, ◌⊎◌, ⊤, ℕ, List, Contains, None}
use Rattle.gb_text.specs.declared.id.Id.{Id}
use Rattle.gb_text.specs.declared.id.Name.{Name}
use Rattle.gb_text.specs.declared.ruled.Line.{Line}
use Rattle.gb_text.specs.declared.ruled.Title.{Title}
use Rattle.gb_store.specs.Files.{History, files_of}
use Rattle.ref_store.specs.Refs.{Absent, Head}
use Rattle.repo_state.specs.Sides.{head_at}
use Rattle.repo_state.specs.Users.{User, user_at}
use Rattle.repo_state.specs.declared.side.Side.TheVariants as side
use Rattle.repo_steps.specs.PeopleDoings.{new_made}
use Rattle.words.specs.Words.{asked_of}
use Rattle.words.specs.declared.edit.Edit.TheVariants as edit
use Rattle.words.specs.declared.words.Asked.TheVariants as asked
use Rattle.words.specs.declared.words.Command.TheVariants.{Edit}
use Rattle.bug_run.specs.Run.{env_at}
use Rattle.bug_run.specs.Runs.{IsRun}
use Rattle.exchange_runs.specs.Takes.{RunsAmong}
use Rattle.exchange_runs.specs.Takes as among

-- a run makes the identity with this id in one of these folders: its arguments ask for a new one there, which has this id; its ref was absent, and then has a head
pub record MakesPerson (folders : List (List ℕ)) (old new : History) (run : IsRun folders old new) (id : Id) (folder : List ℕ) : Type 0 where
  pub is : Contains folders folder
  pub name : Title
  pub email : Line
  pub asked_for : asked_of run.words ≡ asked.Request (record { folder = folder; command = Edit (edit.UserNew name email) })
  pub is_made : (new_made (env_at run.moment folder) name email None).id ≡ id
  pub was : head_at (files_of old) folder side.Identities id ≡ Absent
  pub head : Name
  pub now : head_at (files_of new) folder side.Identities id ≡ Head head

-- a run adds a version to the identity with this id in one of these folders: its arguments ask for that there, where the identity is the user, and then its ref has another head
pub record EditsPerson (folders : List (List ℕ)) (old new : History) (run : IsRun folders old new) (id : Id) (folder : List ℕ) : Type 0 where
  pub is : Contains folders folder
  pub name : Title
  pub email : Line
  pub asked_for : asked_of run.words ≡ asked.Request (record { folder = folder; command = Edit (edit.UserEdit name email) })
  pub is_user : user_at (files_of old) folder ≡ User id
  pub before : Name
  pub was : head_at (files_of old) folder side.Identities id ≡ Head before
  pub head : Name
  pub now : head_at (files_of new) folder side.Identities id ≡ Head head
  pub differ : head ≢ before

-- one of these runs made the identity in this folder
abbrev pub IsMadeIn : (folders : List (List ℕ)) (old new : History) → RunsAmong folders old new → Id → List ℕ → Type 0
IsMadeIn folders old new among.nothing id folder = ⊥
IsMadeIn folders old new (among.one_more mid end runs run takes) id folder = IsMadeIn folders old mid runs id folder ⊎ MakesPerson folders mid end run id folder

-- each identity is made once: no run makes one that a run before it made
abbrev pub AreMadeOnce : (folders : List (List ℕ)) (old new : History) → RunsAmong folders old new → Type 0
AreMadeOnce folders old new among.nothing = ⊤
AreMadeOnce folders old new (among.one_more mid end runs run takes) =
    AreMadeOnce folders old mid runs × ((id : Id) (folder home : List ℕ) → MakesPerson folders mid end run id folder → IsMadeIn folders old mid runs id home → ⊥)

-- each identity is edited only at home: no run adds a version to one in a folder where no run before it made the identity
abbrev pub AreEditedAtHome : (folders : List (List ℕ)) (old new : History) → RunsAmong folders old new → Type 0
AreEditedAtHome folders old new among.nothing = ⊤
AreEditedAtHome folders old new (among.one_more mid end runs run takes) =
    AreEditedAtHome folders old mid runs × ((id : Id) (folder : List ℕ) → EditsPerson folders mid end run id folder → IsMadeIn folders old mid runs id folder)

-- a run sets the user of one of these folders: its arguments ask for that there, and then the identity with this id is the user
pub record SetsUser (folders : List (List ℕ)) (old new : History) (run : IsRun folders old new) (id : Id) (folder : List ℕ) : Type 0 where
  pub is : Contains folders folder
  pub word : List ℕ
  pub asked_for : asked_of run.words ≡ asked.Request (record { folder = folder; command = Edit (edit.UserSet word) })
  pub is_user : user_at (files_of new) folder ≡ User id

-- each user is set at home: no run sets the user of a folder to an identity that no run before it made there
abbrev pub AreSetAtHome : (folders : List (List ℕ)) (old new : History) → RunsAmong folders old new → Type 0
AreSetAtHome folders old new among.nothing = ⊤
AreSetAtHome folders old new (among.one_more mid end runs run takes) =
    AreSetAtHome folders old mid runs × ((id : Id) (folder : List ℕ) → SetsUser folders mid end run id folder → IsMadeIn folders old mid runs id folder)
