-- The texts that the events of a world hash for the operations that they make.
use Rattle.std.specs.Prelude.{◌≡◌, ◌⊎◌, ℕ, List, [], ◌∷◌, ◌++◌, Contains, Some}
use Rattle.std.specs.List.{zip}
use Rattle.gb_text.specs.declared.id.Id.{Id}
use Rattle.gb_store.specs.Files.{History, files_of}
use Rattle.gb_store.specs.Turns.{InTurn}
use Rattle.bug_edits.specs.declared.moment.Moment.{Moment}
use Rattle.bug_ops.specs.Kind.{bug_kind}
use Rattle.bug_ops.specs.declared.op.BugOp.{BugOp}
use Rattle.dag_entity.specs.declared.entity.Placed.{Placed}
use Rattle.words.specs.Words.{asked_of}
use Rattle.operation_origins.specs.Origins.{IsMade}
use Rattle.operation_seeds.specs.Collisions.{Collide}
use Rattle.world.specs.Folders.{world_folders}
use Rattle.world.specs.Plays.{ArePlayed, HasBugs, IsAt, RunsEvent}
use Rattle.world.specs.declared.world.Ended.{Ended}
use Rattle.world_events.specs.Words.{words_of}
use Rattle.world_events.specs.declared.event.Event.{Event}

-- an event makes an operation in a world of so many folders with this history: this is its commit
pub record EventMakes (folders : ℕ) (event : Event) (old : History) : Type 0 where
  pub bugs : List Id
  pub has : HasBugs (files_of old) event.folder bugs
  pub words : List (List ℕ)
  pub are : words_of event bugs ≡ Some words
  pub moment : Moment
  pub at : IsAt event.now event.seed moment
  pub bug : Id
  pub placed : Placed BugOp
  pub made : IsMade (world_folders folders) (asked_of words) moment (files_of old) bug placed

-- a text that an event hashes for the operation that it makes: the operation as it is written, or the seed with a zero byte, whose hash is the nonce
pub record EventHashes (folders : ℕ) (event : Event) (old : History) (text : List ℕ) : Type 0 where
  pub one : EventMakes folders event old
  pub op : BugOp
  pub is_op : Contains one.made.addition.pack.ops op
  pub is : (text ≡ bug_kind.written op) ⊎ (text ≡ event.seed ++ 0 ∷ [])

-- one of some events hashes it, in the world that those before it left
abbrev pub WorldHashes : (folders : ℕ) (runs : List (Event × Ended)) (old new : History) → InTurn RunsEvent runs old new → List ℕ → Type 0
WorldHashes folders [] old new turns text = ⊥
WorldHashes folders (run ∷ later) old new turns text = EventHashes folders run.0 old text ⊎ WorldHashes folders later turns.0 new turns.2 text

-- no two of the texts of events that were played, and that differ, have one SHA-256
abbrev pub HashesDoNotCollide : (folders : ℕ) (events : List Event) (ends : List Ended) (old new : History) → ArePlayed events ends old new → Type 0
HashesDoNotCollide folders events ends old new played =
    (one two : List ℕ) → WorldHashes folders (zip events ends) old new played.in_turn one → WorldHashes folders (zip events ends) old new played.in_turn two
    → Collide one two → ⊥
