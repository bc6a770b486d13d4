-- The events that make identities: their seeds, and the texts that they hash for them.
use Rattle.std.specs.Prelude.{◌≡◌, ◌≢◌, ◌⊎◌, ⊤, ℕ, List, [], ◌∷◌, ◌++◌, All, Contains, Some, None}
use Rattle.std.specs.List.{zip}
use Rattle.gb_text.specs.declared.id.Id.{Id}
use Rattle.gb_text.specs.declared.ruled.Line.{Line}
use Rattle.gb_text.specs.declared.ruled.Title.{Title}
use Rattle.gb_store.specs.Files.{History, files_of}
use Rattle.gb_store.specs.Turns.{InTurn}
use Rattle.bug_edits.specs.declared.moment.Moment.{Moment}
use Rattle.ref_store.specs.Refs.{Absent}
use Rattle.repo_state.specs.Sides.{head_at}
use Rattle.repo_state.specs.declared.side.Side.TheVariants as side
use Rattle.repo_steps.specs.PeopleDoings.{new_made, new_text}
use Rattle.words.specs.Words.{asked_of}
use Rattle.words.specs.declared.edit.Edit.TheVariants as edit
use Rattle.words.specs.declared.words.Asked.TheVariants as asked
use Rattle.words.specs.declared.words.Command.TheVariants as command
use Rattle.bug_run.specs.Run.{env_at}
use Rattle.operation_seeds.specs.Collisions.{Collide}
use Rattle.world.specs.Folders.{world_folders}
use Rattle.world.specs.Plays.{ArePlayed, HasBugs, IsAt, RunsEvent}
use Rattle.world.specs.declared.world.Ended.{Ended}
use Rattle.world_events.specs.Words.{words_of}
use Rattle.world_events.specs.declared.act.Act.{Act}
use Rattle.world_events.specs.declared.act.Act.TheVariants.{UserNew}
use Rattle.world_events.specs.declared.event.Event.{Event}
use Rattle.clean_folders.specs.Worlds.{IsCleanWorld}

-- ---- seeds

-- a command makes an identity
abbrev pub MakesAPerson : Act → Type 0
MakesAPerson UserNew = ⊤
MakesAPerson _ = ⊥

-- no event that makes an identity has the seed of a later one that does
abbrev pub HaveDistinctPeopleSeeds : List Event → Type 0
HaveDistinctPeopleSeeds [] = ⊤
HaveDistinctPeopleSeeds (event ∷ later) =
    (MakesAPerson event.act → All (λ (other : Event). MakesAPerson other.act → other.seed ≢ event.seed) later) × HaveDistinctPeopleSeeds later

-- ---- texts

-- an event makes an identity in a world of so many folders with this history: its arguments ask for one in a folder, which has no head of it
pub record PersonEventMakes (folders : ℕ) (event : Event) (old : History) : Type 0 where
  pub bugs : List Id
  pub has : HasBugs (files_of old) event.folder bugs
  pub words : List (List ℕ)
  pub are : words_of event bugs ≡ Some words
  pub moment : Moment
  pub at : IsAt event.now event.seed moment
  pub folder : List ℕ
  pub is : Contains (world_folders folders) folder
  pub name : Title
  pub email : Line
  pub asked_for : asked_of words ≡ asked.Request (record { folder = folder; command = command.Edit (edit.UserNew name email) })
  pub was : head_at (files_of old) folder side.Identities (new_made (env_at moment folder) name email None).id ≡ Absent

-- a text that an event hashes for the identity that it makes: that of its first version, or the seed with a zero byte, whose hash is the nonce
pub record PersonEventHashes (folders : ℕ) (event : Event) (old : History) (text : List ℕ) : Type 0 where
  pub one : PersonEventMakes folders event old
  pub is : (text ≡ new_text (env_at one.moment one.folder) one.name one.email) ⊎ (text ≡ event.seed ++ 0 ∷ [])

-- one of some events hashes it, in the world that those before it left
abbrev pub WorldPeopleHashes : (folders : ℕ) (runs : List (Event × Ended)) (old new : History) → InTurn RunsEvent runs old new → List ℕ → Type 0
WorldPeopleHashes folders [] old new turns text = ⊥
WorldPeopleHashes folders (run ∷ later) old new turns text = PersonEventHashes folders run.0 old text ⊎ WorldPeopleHashes folders later turns.0 new turns.2 text

-- no two of the texts of events that were played, and that differ, have one SHA-256
abbrev pub PeopleHashesDoNotCollide : (folders : ℕ) (events : List Event) (ends : List Ended) (old new : History) → ArePlayed events ends old new → Type 0
PeopleHashesDoNotCollide folders events ends old new played =
    (one two : List ℕ) → WorldPeopleHashes folders (zip events ends) old new played.in_turn one → WorldPeopleHashes folders (zip events ends) old new played.in_turn two
    → Collide one two → ⊥

-- ---- worlds

-- the events of a clean world that make identities have distinct seeds, and no two texts that they hash have one hash
pub record HasCleanPeople (folders : ℕ) (files : History) (world : IsCleanWorld folders files) : Type 0 where
  pub seeds : HaveDistinctPeopleSeeds world.events
  pub no_collision : PeopleHashesDoNotCollide folders world.events world.ends [] files world.played
