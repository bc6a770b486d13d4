-- The turns of an exchange: one for each entity, the identities first, then the bugs.
use Rattle.std.specs.Prelude.{◌≡◌, ◌++◌, ◌∷◌, ◌⊎◌, ⊤, ℕ, Bool, true, false, List, map, Result, Ok, Err}
use Rattle.std.specs.List.{list_any}
use Rattle.gb_store.specs.Files.{History, files_of}
use Rattle.gb_store.specs.Turns.{InTurn}
use Rattle.repo_state.specs.Listed.{AreRefs}
use Rattle.repo_state.specs.declared.refs.EntityRef.{EntityRef}
use Rattle.repo_state.specs.declared.side.Side.TheVariants as side
use Rattle.repo_state.specs.declared.stop.ReadStop.{ReadStop}
use Rattle.repo_state.specs.declared.stop.ReadStop.TheVariants as stop
use Rattle.sync_steps.specs.Lines.{are_quiet}
use Rattle.sync_steps.specs.declared.line.EntityWord.{EntityWord}
use Rattle.sync_steps.specs.declared.line.EntityWord.TheVariants as word
use Rattle.sync_steps.specs.declared.line.Exchange.{Exchange}
use Rattle.sync_steps.specs.declared.line.Line.{Line}
use Rattle.sync_steps.specs.declared.line.Outcome.{Outcome}
use Rattle.sync_steps.specs.declared.line.Outcome.TheVariants as outcome

-- an entity, with its ref as it was listed, and what came of it
pub record Turn : Type 0 where
  pub entity : EntityRef
  pub outcome : Outcome

-- the entities that had their turn
abbrev pub entities_of : List Turn → List EntityRef
entities_of turns = map (λ (turn : Turn). turn.entity) turns

-- the line of a turn, and those of several
abbrev pub line_of : Exchange → EntityWord → Turn → Line
line_of verb word turn = record { verb = verb; word = word; id = turn.entity.id; outcome = turn.outcome }

abbrev pub lines_of : Exchange → EntityWord → List Turn → List Line
lines_of verb word turns = map (line_of verb word) turns

-- an identity is damaged: its ref, or something that its head needs
abbrev pub is_damage : Outcome → Bool
is_damage outcome.BadRef = true
is_damage (outcome.DamagedCopy why) = true
is_damage _ = false

-- one of these is
abbrev pub are_held : List Turn → Bool
are_held turns = list_any (λ (turn : Turn). is_damage turn.outcome) turns

-- memory ran out, or the disk failed
abbrev pub IsNoDamage : ReadStop → Type 0
IsNoDamage stop.Memory = ⊤
IsNoDamage stop.Disk = ⊤
IsNoDamage (stop.Damaged path) = ⊥

-- the entities before one of them had their turns, and the call ended at that one
pub record Ended (Step : Turn → History → History → Type 0) (Stops : ReadStop → EntityRef → History → History → Type 0) (why : ReadStop) (refs : List EntityRef) (old new : History) : Type 0 where
  pub done : List Turn
  pub at : EntityRef
  pub rest : List EntityRef
  pub are : refs ≡ entities_of done ++ at ∷ rest
  pub mid : History
  pub before : InTurn Step done old mid
  pub ended : Stops why at mid new

-- each entity had its turn, in order
pub record Went (Step : Turn → History → History → Type 0) (refs : List EntityRef) (turns : List Turn) (old new : History) : Type 0 where
  pub are : entities_of turns ≡ refs
  pub each : InTurn Step turns old new

-- the same, and its line was added
pub record WentOn (verb : Exchange) (word : EntityWord) (Step : Turn → History → History → Type 0) (refs : List EntityRef) (early late : List Line) (old new : History) : Type 0 where
  pub turns : List Turn
  pub went : Went Step refs turns old new
  pub lines : late ≡ early ++ lines_of verb word turns

-- The answer of what goes through the entities of one kind.
abbrev pub EachAnswers : Exchange → EntityWord → (Turn → History → History → Type 0) → (ReadStop → EntityRef → History → History → Type 0) → List EntityRef → List Line → List Line → History → History → Result Unit ReadStop → Type 0
EachAnswers verb word Step Stops refs early late old new (Ok done) = WentOn verb word Step refs early late old new
EachAnswers verb word Step Stops refs early late old new (Err why) = Ended Step Stops why refs old new

-- lines were added; where they all came of refs alone, no object was read
pub record AddsLines (early late : List Line) (before after : ℕ) : Type 0 where
  pub added : List Line
  pub lines : late ≡ early ++ added
  pub unread : are_quiet added ≡ true → after ≡ before

-- the refs of both kinds that stand in a folder
pub record AreBoth (folder : List ℕ) (old : History) (people bugs : List EntityRef) : Type 0 where
  pub are_people : AreRefs (files_of old) folder side.Identities people
  pub are_bugs : AreRefs (files_of old) folder side.Bugs bugs

module _ (verb : Exchange) (Step : EntityWord → Bool → Turn → History → History → Type 0) (Stops : EntityWord → Bool → ReadStop → EntityRef → History → History → Type 0) where
  -- The identities had their turns, and then the bugs, by what came of the identities. The lines are those of the turns.
  pub record IsDone (folder : List ℕ) (lines : List Line) (old new : History) : Type 0 where
    pub people : List EntityRef
    pub bugs : List EntityRef
    pub are : AreBoth folder old people bugs
    pub person_turns : List Turn
    pub bug_turns : List Turn
    pub mid : History
    pub first : Went (Step word.Identity false) people person_turns old mid
    pub then : Went (Step word.Bug (are_held person_turns)) bugs bug_turns mid new
    pub are_lines : lines ≡ lines_of verb word.Identity person_turns ++ lines_of verb word.Bug bug_turns

  -- the call ended at an identity
  pub record EndedAtPerson (folder : List ℕ) (why : ReadStop) (old new : History) : Type 0 where
    pub people : List EntityRef
    pub bugs : List EntityRef
    pub are : AreBoth folder old people bugs
    pub ended : Ended (Step word.Identity false) (Stops word.Identity false) why people old new

  -- the identities had their turns, and the call ended at a bug
  pub record EndedAtBug (folder : List ℕ) (why : ReadStop) (old new : History) : Type 0 where
    pub people : List EntityRef
    pub bugs : List EntityRef
    pub are : AreBoth folder old people bugs
    pub person_turns : List Turn
    pub mid : History
    pub first : Went (Step word.Identity false) people person_turns old mid
    pub ended : Ended (Step word.Bug (are_held person_turns)) (Stops word.Bug (are_held person_turns)) why bugs mid new

  -- The answer of an exchange over the refs that stand in a folder before it: a line for each entity, in order; or where it ended. What ends the call at an entity keeps the turns before it.
  abbrev pub ExchangeAnswers : List ℕ → History → History → Result (List Line) ReadStop → Type 0
  ExchangeAnswers folder old new (Ok lines) = IsDone folder lines old new
  ExchangeAnswers folder old new (Err why) = (IsNoDamage why × (new ≡ old)) ⊎ (EndedAtPerson folder why old new ⊎ EndedAtBug folder why old new)
