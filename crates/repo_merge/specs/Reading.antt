-- How many objects a merge and a pull read, turn by turn.
use Rattle.std.specs.Prelude.{◌≡◌, ◌≤◌, ◌+◌, ◌*◌, ◌⊎◌, ℕ, List, length, Option, Some, Result}
use Rattle.gb_text.specs.declared.id.Id.{Id}
use Rattle.gb_text.specs.declared.id.Name.{Name}
use Rattle.gb_store.specs.Files.{History, files_of}
use Rattle.object_store.specs.Held.{Objects, objects_after}
use Rattle.commit_walk.specs.Chain.{Walked}
use Rattle.commit_walk.specs.Passing.{ReadsAbove}
use Rattle.commit_walk.specs.declared.below.TheConstants.{MOST_COMMITS}
use Rattle.commit_walk.specs.declared.chain.Link.{Link}
use Rattle.entity_merge.specs.Joins.{both_heads}
use Rattle.entity_merge.specs.Merging.{ReadsAndPuts}
use Rattle.remote_name.specs.declared.remote.RemoteName.{RemoteName}
use Rattle.repo_state.specs.Sides.{AreIds}
use Rattle.repo_state.specs.declared.refs.EntityRef.{EntityRef}
use Rattle.repo_state.specs.declared.side.Side.TheVariants as side
use Rattle.merge_steps.specs.Merging.{MergeTurn, MergesBug, MergesPerson}
use Rattle.merge_steps.specs.Turns.{Tracked}
use Rattle.merge_steps.specs.declared.line.MergeOutcome.TheVariants as outcome
use Rattle.merge_steps.specs.declared.stop.TurnStop.{TurnStop}
use Rattle.repo_sync.specs.Reading.{AllRead, EachRead, FetchedAll, ReadsFetched, SomeRead}
use Rattle.repo_merge.specs.Heads.{HasHeads}
use Rattle.repo_merge.specs.declared.heads.Heads.{Heads}

-- ---- one turn, by the objects that are held when it begins, and by the reads before and after it

-- a tracked head of an identity is taken up: at most the commits above it are read where it is in the local chain, and three objects
-- for each version where it is new; and never more than four for each commit that a chain may have
pub record ReadsChains (objects : Objects) (local : Option Name) (tracked : Name) (IsNew : Type 0) (before after : ℕ) : Type 0 where
  pub above : (head : Name) → local ≡ Some head → ReadsAbove objects head tracked before after
  pub new : IsNew → (walk : List Link) → Walked objects tracked walk → after ≤ before + 3 * length walk
  pub most : after ≤ before + 4 * MOST_COMMITS

-- the turn of an identity: none where a head is not known, and else those of both heads
abbrev pub ReadsPerson : List ℕ → Type 0 → EntityRef → History → ℕ → ℕ → Type 0
ReadsPerson folder IsNew entity old before after =
    (after ≤ before)
    ⊎ ((heads : Heads) × HasHeads (files_of old) folder side.Identities entity heads × ReadsChains (objects_after old folder) heads.local heads.tracked IsNew before after)

-- the turn of a bug: none where a head is not known, and else at most three for each of some names below both heads, and four that are put
abbrev pub ReadsBug : List ℕ → EntityRef → History → ℕ → ℕ → Type 0
ReadsBug folder entity old before after =
    (after ≤ before)
    ⊎ ((heads : Heads) × HasHeads (files_of old) folder side.Bugs entity heads × ReadsAndPuts (objects_after old folder) (both_heads heads.local heads.tracked) before after)

-- the turn of an identity that was had, with its reads; and that of a bug
pub record PersonRead (folder : List ℕ) (turn : MergeTurn) (old new : History) (before after : ℕ) : Type 0 where
  pub merged : MergesPerson folder turn old new
  pub reads : ReadsPerson folder (turn.outcome ≡ outcome.New) turn.entity old before after

pub record BugRead (folder : List ℕ) (user : Id) (authors : List Id) (now : ℕ) (turn : MergeTurn) (old new : History) (before after : ℕ) : Type 0 where
  pub merged : MergesBug folder user authors now turn old new
  pub reads : ReadsBug folder turn.entity old before after

-- ---- the turns of one kind

-- each of these identities had its turn; some had; and what is read by the call that goes through them
abbrev pub AllPeopleRead : List ℕ → List EntityRef → History → History → ℕ → ℕ → Type 0
AllPeopleRead folder refs old new before after = AllRead (λ (turn : MergeTurn). turn.entity) (PersonRead folder) refs old new before after

abbrev pub SomePeopleRead : List ℕ → List EntityRef → History → ℕ → ℕ → Type 0
SomePeopleRead folder refs old before after = SomeRead (λ (turn : MergeTurn). turn.entity) (PersonRead folder) (ReadsPerson folder ⊥) refs old before after

abbrev pub EachPersonRead : List ℕ → List EntityRef → History → History → ℕ → ℕ → Result Unit TurnStop → Type 0
EachPersonRead folder refs old new before after result = EachRead (λ (turn : MergeTurn). turn.entity) (PersonRead folder) (ReadsPerson folder ⊥) refs old new before after result

-- the same of bugs
module _ (folder : List ℕ) (user : Id) (authors : List Id) (now : ℕ) where
  abbrev pub AllBugsRead : List EntityRef → History → History → ℕ → ℕ → Type 0
  AllBugsRead refs old new before after = AllRead (λ (turn : MergeTurn). turn.entity) (BugRead folder user authors now) refs old new before after

  abbrev pub SomeBugsRead : List EntityRef → History → ℕ → ℕ → Type 0
  SomeBugsRead refs old before after = SomeRead (λ (turn : MergeTurn). turn.entity) (BugRead folder user authors now) (ReadsBug folder) refs old before after

  abbrev pub EachBugRead : List EntityRef → History → History → ℕ → ℕ → Result Unit TurnStop → Type 0
  EachBugRead refs old new before after result = EachRead (λ (turn : MergeTurn). turn.entity) (BugRead folder user authors now) (ReadsBug folder) refs old new before after result

-- ---- a merge, and a pull

module _ (folder : List ℕ) (remote : RemoteName) (now : ℕ) where
  -- all identities had their turns, and then bugs, all of them or those before the one at which the call ended
  pub record MergedBugs (user : Id) (people bugs : List EntityRef) (old : History) (before after : ℕ) : Type 0 where
    pub mid : History
    pub between : ℕ
    pub first : AllPeopleRead folder people old mid before between
    pub authors : List Id
    pub are_authors : AreIds (files_of mid) folder side.Identities authors
    pub then : SomeBugsRead folder user authors now bugs mid between after

  -- What a merge reads, however it answers: nothing before its first turn, and then what its turns read, in order.
  abbrev pub ReadsMerging : History → ℕ → ℕ → Type 0
  ReadsMerging old before after =
      (after ≤ before)
      ⊎ ((tracked : Tracked folder remote now old)
      × (SomePeopleRead folder tracked.people old before after ⊎ MergedBugs tracked.user tracked.people tracked.bugs old before after))

module _ (own peer : List ℕ) (remote : RemoteName) (now : ℕ) where
  -- a fetch was done, and then a merge answered
  pub record MergedFetched (old : History) (before after : ℕ) : Type 0 where
    pub mid : History
    pub between : ℕ
    pub first : FetchedAll own peer remote old mid before between
    pub then : ReadsMerging own remote now mid between after

  -- What a pull reads, however it answers: what its fetch does, and then what its merge does.
  abbrev pub ReadsPulling : History → ℕ → ℕ → Type 0
  ReadsPulling old before after = ReadsFetched own peer remote old before after ⊎ MergedFetched old before after
