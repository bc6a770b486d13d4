-- The turns of a merge: one for each tracked entity of a remote, the identities first, then the bugs.
use Rattle.std.specs.Prelude.{◌≡◌, ◌++◌, ◌∷◌, ◌⊎◌, ⊤, ℕ, List, map, Result, Ok, Err}
use Rattle.gb_text.specs.declared.id.Id.{Id}
use Rattle.gb_store.specs.Files.{History, files_of}
use Rattle.gb_store.specs.Turns.{InTurn}
use Rattle.remote_name.specs.declared.remote.RemoteName.{RemoteName}
use Rattle.repo_state.specs.Listed.{AreRefs}
use Rattle.repo_state.specs.Sides.{AreIds}
use Rattle.repo_state.specs.Users.{BadUser, NoUser, User, user_at, user_place}
use Rattle.repo_state.specs.declared.refs.EntityRef.{EntityRef}
use Rattle.repo_state.specs.declared.side.Side.TheVariants as side
use Rattle.gb_text.specs.Folder.{joined}
use Rattle.sync_steps.specs.declared.line.EntityWord.{EntityWord}
use Rattle.sync_steps.specs.declared.line.EntityWord.TheVariants as word
use Rattle.merge_steps.specs.Merging.{BugStops, MergeTurn, MergesBug, MergesPerson, PersonStops}
use Rattle.merge_steps.specs.Stops.{stop_of_turn}
use Rattle.merge_steps.specs.declared.line.MergeLine.{MergeLine}
use Rattle.merge_steps.specs.declared.stop.MergeStop.{MergeStop}
use Rattle.merge_steps.specs.declared.stop.MergeStop.TheVariants as stop
use Rattle.merge_steps.specs.declared.stop.TurnStop.{TurnStop}

-- the entities that had their turn
abbrev pub entities_of : List MergeTurn → List EntityRef
entities_of turns = map (λ (turn : MergeTurn). turn.entity) turns

-- the line of a turn, and those of several
abbrev pub line_of : EntityWord → MergeTurn → MergeLine
line_of word turn = record { word = word; id = turn.entity.id; outcome = turn.outcome }

abbrev pub lines_of : EntityWord → List MergeTurn → List MergeLine
lines_of word turns = map (line_of word) turns

module _ (Step : MergeTurn → History → History → Type 0) where
  -- each entity had its turn, in order
  pub record Went (refs : List EntityRef) (turns : List MergeTurn) (old new : History) : Type 0 where
    pub are : entities_of turns ≡ refs
    pub each : InTurn Step turns old new

  -- the same, and its line was added
  pub record WentOn (word : EntityWord) (refs : List EntityRef) (early late : List MergeLine) (old new : History) : Type 0 where
    pub turns : List MergeTurn
    pub went : Went refs turns old new
    pub lines : late ≡ early ++ lines_of word turns

  -- the entities before one of them had their turns, and the call ended at that one
  pub record Ended (Stops : TurnStop → EntityRef → History → History → Type 0) (why : TurnStop) (refs : List EntityRef) (old new : History) : Type 0 where
    pub done : List MergeTurn
    pub at : EntityRef
    pub rest : List EntityRef
    pub are : refs ≡ entities_of done ++ at ∷ rest
    pub mid : History
    pub before : InTurn Step done old mid
    pub ended : Stops why at mid new

  -- The answer of what goes through the entities of one kind.
  abbrev pub EachMerged : (TurnStop → EntityRef → History → History → Type 0) → EntityWord → List EntityRef → List MergeLine → List MergeLine → History → History → Result Unit TurnStop → Type 0
  EachMerged Stops word refs early late old new (Ok done) = WentOn word refs early late old new
  EachMerged Stops word refs early late old new (Err why) = Ended Stops why refs old new

module _ (folder : List ℕ) (remote : RemoteName) (now : ℕ) where
  -- what is merged: the refs of both kinds that stand on the tracking sides, and the user
  pub record Tracked (old : History) : Type 0 where
    pub user : Id
    pub is_user : user_at (files_of old) folder ≡ User user
    pub people : List EntityRef
    pub are_people : AreRefs (files_of old) folder (side.RemoteIdentities remote) people
    pub bugs : List EntityRef
    pub are_bugs : AreRefs (files_of old) folder (side.RemoteBugs remote) bugs

  -- the identities had their turns, and these are the local ones then, who may be authors
  pub record PeopleMerged (people : List EntityRef) (old mid : History) : Type 0 where
    pub turns : List MergeTurn
    pub went : Went (MergesPerson folder) people turns old mid
    pub authors : List Id
    pub are_authors : AreIds (files_of mid) folder side.Identities authors

  -- The identities had their turns, and then the bugs. The lines are those of the turns.
  pub record IsMerged (lines : List MergeLine) (old new : History) : Type 0 where
    pub tracked : Tracked old
    pub mid : History
    pub first : PeopleMerged tracked.people old mid
    pub turns : List MergeTurn
    pub then : Went (MergesBug folder tracked.user first.authors now) tracked.bugs turns mid new
    pub are_lines : lines ≡ lines_of word.Identity first.turns ++ lines_of word.Bug turns

  -- the call ended at an identity
  pub record EndedAtPerson (why : TurnStop) (old new : History) : Type 0 where
    pub tracked : Tracked old
    pub ended : Ended (MergesPerson folder) (PersonStops folder (side.RemoteIdentities remote)) why tracked.people old new

  -- the identities had their turns, and the call ended at a bug
  pub record EndedAtBug (why : TurnStop) (old new : History) : Type 0 where
    pub tracked : Tracked old
    pub mid : History
    pub first : PeopleMerged tracked.people old mid
    pub ended : Ended (MergesBug folder tracked.user first.authors now) (BugStops folder tracked.user first.authors now (side.RemoteBugs remote)) why tracked.bugs mid new

  -- the identities had their turns, and memory ran out or the disk failed before the first bug
  pub record EndedBetween (old new : History) : Type 0 where
    pub tracked : Tracked old
    pub turns : List MergeTurn
    pub went : Went (MergesPerson folder) tracked.people turns old new

  -- nothing was written for want of memory or a fault of the disk, for want of a user, or because the user file names no local identity
  abbrev pub NotBegun : MergeStop → History → History → Type 0
  NotBegun stop.Memory old new = new ≡ old
  NotBegun stop.Disk old new = new ≡ old
  NotBegun stop.NoUser old new = (user_at (files_of old) folder ≡ NoUser) × (new ≡ old)
  NotBegun (stop.Damaged path) old new = (user_at (files_of old) folder ≡ BadUser) × (path ≡ joined folder user_place) × (new ≡ old)
  NotBegun (stop.Taken name) old new = ⊥

  -- memory ran out, or the disk failed
  abbrev pub IsFault : MergeStop → Type 0
  IsFault stop.Memory = ⊤
  IsFault stop.Disk = ⊤
  IsFault _ = ⊥

  -- The answer of a merge: a line for each tracked entity of the remote, in order; or where it ended. What ends it at an entity keeps the turns before it.
  abbrev pub MergeAnswers : History → History → Result (List MergeLine) MergeStop → Type 0
  MergeAnswers old new (Ok lines) = IsMerged lines old new
  MergeAnswers old new (Err why) =
      NotBegun why old new
      ⊎ ((at : TurnStop) × (why ≡ stop_of_turn at) × (EndedAtPerson at old new ⊎ EndedAtBug at old new))
      ⊎ (IsFault why × EndedBetween old new)
