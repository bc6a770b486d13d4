-- How many objects are read in turns, one after another, and by a fetch.
use Rattle.std.specs.Prelude.{◌≡◌, ◌≤◌, ◌⊎◌, ◌++◌, ◌∷◌, [], ℕ, List, map, Some, true, Result, Ok, Err}
use Rattle.gb_text.specs.declared.id.Name.{Name}
use Rattle.gb_store.specs.Files.{History}
use Rattle.object_store.specs.Held.{objects_after}
use Rattle.remote_copy.specs.Copies.{ReadsEach}
use Rattle.remote_name.specs.declared.remote.RemoteName.{RemoteName}
use Rattle.repo_state.specs.declared.refs.EntityRef.{EntityRef}
use Rattle.repo_state.specs.declared.side.Side.{Side}
use Rattle.repo_state.specs.declared.side.Side.TheVariants as side
use Rattle.repo_state.specs.declared.stop.ReadStop.{ReadStop}
use Rattle.sync_steps.specs.Fetching.{Fetches}
use Rattle.sync_steps.specs.Turns.{AreBoth, Turn}
use Rattle.sync_steps.specs.declared.line.Line.{Line}

-- ---- turns of entities, each from where the one before it left the folders and the reads

module _ {A : Type 0} (entity_of : A → EntityRef) (Turns : A → History → History → ℕ → ℕ → Type 0) where
  -- the turns were had in this order
  abbrev pub TurnsRead : List A → History → History → ℕ → ℕ → Type 0
  TurnsRead [] old new before after = (new ≡ old) × (after ≡ before)
  TurnsRead (turn ∷ later) old new before after = (mid : History) × (between : ℕ) × Turns turn old mid before between × TurnsRead later mid new between after

  -- each entity had its turn
  pub record AllRead (refs : List EntityRef) (old new : History) (before after : ℕ) : Type 0 where
    pub turns : List A
    pub are : map entity_of turns ≡ refs
    pub each : TurnsRead turns old new before after

  module _ (Reads : EntityRef → History → ℕ → ℕ → Type 0) where
    -- a call ended at the first of these entities, if there is one, with what its turn reads
    abbrev pub ReadsFirst : List EntityRef → History → ℕ → ℕ → Type 0
    ReadsFirst [] old before after = after ≤ before
    ReadsFirst (at ∷ rest) old before after = Reads at old before after

    -- some entities had their turns, in order, and the call ended at the next one, if there is one
    pub record SomeRead (refs : List EntityRef) (old : History) (before after : ℕ) : Type 0 where
      pub done : List A
      pub rest : List EntityRef
      pub are : refs ≡ map entity_of done ++ rest
      pub mid : History
      pub between : ℕ
      pub each : TurnsRead done old mid before between
      pub last : ReadsFirst rest mid between after

    -- What is read by a call that goes through the entities of one kind.
    abbrev pub EachRead : {E : Type 0} → List EntityRef → History → History → ℕ → ℕ → Result Unit E → Type 0
    EachRead refs old new before after (Ok done) = AllRead refs old new before after
    EachRead refs old new before after (Err why) = SomeRead refs old before after

-- ---- a fetch

module _ (own peer : List ℕ) where
  -- the turn of an entity: none where the own folder has the peer's head, and else those of a copy of what that head leads to
  abbrev pub ReadsFetch : EntityRef → History → ℕ → ℕ → Type 0
  ReadsFetch entity old before after =
      (after ≤ before) ⊎ ((head : Name) × (entity.head ≡ Some head) × ReadsEach true (objects_after old peer) (objects_after old own) head before after)

  -- a turn that was had, with its reads
  pub record FetchRead (to : Side) (turn : Turn) (old new : History) (before after : ℕ) : Type 0 where
    pub fetched : Fetches own peer to turn old new
    pub reads : ReadsFetch turn.entity old before after

  -- each of these entities was fetched to a side; or some were
  abbrev pub AllFetchesRead : Side → List EntityRef → History → History → ℕ → ℕ → Type 0
  AllFetchesRead to refs old new before after = AllRead (λ (turn : Turn). turn.entity) (FetchRead to) refs old new before after

  abbrev pub SomeFetchesRead : Side → List EntityRef → History → ℕ → ℕ → Type 0
  SomeFetchesRead to refs old before after = SomeRead (λ (turn : Turn). turn.entity) (FetchRead to) ReadsFetch refs old before after

  module _ (remote : RemoteName) where
    -- all identities of the peer had their turns, and then all its bugs
    pub record FetchedAll (old new : History) (before after : ℕ) : Type 0 where
      pub people : List EntityRef
      pub bugs : List EntityRef
      pub are : AreBoth peer old people bugs
      pub mid : History
      pub between : ℕ
      pub first : AllFetchesRead (side.RemoteIdentities remote) people old mid before between
      pub then : AllFetchesRead (side.RemoteBugs remote) bugs mid new between after

    -- some identities had; or all, and then some bugs
    pub record FetchedPeople (old : History) (before after : ℕ) : Type 0 where
      pub people : List EntityRef
      pub bugs : List EntityRef
      pub are : AreBoth peer old people bugs
      pub some : SomeFetchesRead (side.RemoteIdentities remote) people old before after

    pub record FetchedBugs (old : History) (before after : ℕ) : Type 0 where
      pub people : List EntityRef
      pub bugs : List EntityRef
      pub are : AreBoth peer old people bugs
      pub mid : History
      pub between : ℕ
      pub first : AllFetchesRead (side.RemoteIdentities remote) people old mid before between
      pub some : SomeFetchesRead (side.RemoteBugs remote) bugs mid between after

    -- What a fetch reads, however it answers: nothing before its first turn, and then what its turns read, in order.
    abbrev pub ReadsFetched : History → ℕ → ℕ → Type 0
    ReadsFetched old before after = (after ≤ before) ⊎ (FetchedPeople old before after ⊎ FetchedBugs old before after)

    -- the same by its answer: all had their turns where it answers lines
    abbrev pub ReadsFetching : History → History → ℕ → ℕ → Result (List Line) ReadStop → Type 0
    ReadsFetching old new before after (Ok lines) = FetchedAll old new before after
    ReadsFetching old new before after (Err why) = ReadsFetched old before after
