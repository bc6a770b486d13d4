-- What folders have last seen of identities has no fault, and the authors of what they have last seen of bugs are known to them.
use Rattle.std.proofs.Common.{◌≡◌, ◌⊎◌, inl, inr, IsTrue, ℕ, List, [], ◌∷◌, Contains, Some, None, refl, sym, ◌∙◌, subst}
use Rattle.gb_text.specs.Digits.{IsId}
use Rattle.gb_text.specs.declared.id.Id.{Id}
use Rattle.gb_text.specs.declared.id.Name.{Name}
use Rattle.gb_store.specs.Files.{Files, History, files_of}
use Rattle.object_store.specs.Growth.{OnlyGrew}
use Rattle.object_store.specs.Held.{objects_after, objects_in}
use Rattle.object_store.proofs.GrowthLemmas.{text_stays}
use Rattle.object_batch.proofs.ClashLemmas.{Contains-first}
use Rattle.commit_walk.specs.Below.{head}
use Rattle.bug_ops.specs.Kind.{bug_kind}
use Rattle.bug_ops.specs.declared.op.BugOp.{BugOp}
use Rattle.bug_run.specs.Runs.{AreAllSound, AreApart, IsRun, nothing, one_more}
use Rattle.bug_run.proofs.RunsLemmas.{runs_from_nothing, runs_keep_sound, runs_lose_nothing}
use Rattle.dag_entity.specs.Folders.{HaveOneText}
use Rattle.dag_entity.specs.Nodes.{IsNodeBelow}
use Rattle.dag_entity.specs.declared.entity.Loaded.{Loaded}
use Rattle.identity.proofs.ExtendLemmas.{chain_stays}
use Rattle.ref_store.specs.Refs.{Absent, Bad, Head, Ref, is_there}
use Rattle.remote_name.specs.declared.remote.RemoteName.{RemoteName}
use Rattle.repo_state.specs.Bugs.{IsLocal}
use Rattle.repo_state.specs.Sides.{head_at}
use Rattle.repo_state.specs.Sound.{IsAuthoredBug, IsSound, IsSoundIdentity}
use Rattle.repo_state.specs.Sound as parts
use Rattle.repo_state.specs.declared.side.Side.TheVariants as side
use Rattle.repo_state.proofs.EmptyLemmas.{empty_is_sound}
use Rattle.repo_writes.specs.Kept.{LosesNothing}
use Rattle.sync_steps.specs.declared.line.EntityWord.TheVariants as word
use Rattle.words.specs.Words.{asked_of}
use Rattle.full_exchanges.specs.Having.{HaveOneTextEach}
use Rattle.full_exchanges.proofs.ExchangeLemmas.{one_text_before}
use Rattle.full_exchanges.proofs.HasLemmas.{head_held}
use Rattle.operation_origins.specs.Tracked.{IsTrackedPerson, TrackedAuthorsAreKnown}
use Rattle.exchange_runs.specs.Takes.{RunsAmong, TakesAmong}
use Rattle.exchange_runs.specs.Takes as among
use Rattle.exchange_runs.proofs.AmongLemmas.{are_runs}
use Rattle.flat_trees.specs.Flat.{AreAllFlat}
use Rattle.flat_trees.proofs.RunLemmas.{runs_flat}
use Rattle.identity_runs.specs.Tracked.{SeenAuthorsAreKnown, SeenPeopleAreSound}
use Rattle.identity_runs.proofs.AlikeLemmas.{author_back, chain_over}
use Rattle.identity_runs.proofs.TrackedRunLemmas.{IsTaken, run_keeps}

-- ---- local identities

module _ (folder : List ℕ) (files : Files) (id : Id) where
  -- the ref of a local identity of a sound folder reads
  local_head : IsSound folder files → IsLocal files folder id → (top : Name) × (head_at files folder side.Identities id ≡ Head top)
  local_head sound local = by (head_at files folder side.Identities id) refl
    where
      by : (ref : Ref) → head_at files folder side.Identities id ≡ ref → (top : Name) × (head_at files folder side.Identities id ≡ Head top)
      by Absent is = absurd (cc (subst (λ (r : Ref). IsTrue (is_there r)) is local.stands))
      by (Head top) is = (top, is)
      by Bad is = absurd (subst (IsSoundIdentity (objects_in files folder) id) is (sound parts.Identities id local.is_id))

  -- where a ref reads, the identity is local
  head_local : IsId id → (top : Name) → head_at files folder side.Identities id ≡ Head top → IsLocal files folder id
  head_local is_id top is = record { is_id = is_id; stands = subst (λ (r : Ref). IsTrue (is_there r)) (sym is) refl }

-- a local identity stays one where nothing is lost
local_stays : (folder : List ℕ) (old new : Files) (id : Id) → IsSound folder old → LosesNothing folder old new → IsLocal old folder id → IsLocal new folder id
local_stays folder old new id sound lost local =
    let at = local_head folder old id sound local in
    let kept = lost.heads side.Identities tt id local.is_id at.0 at.0 at.1 (head (Contains-first at.0 [])) in
    head_local folder new id local.is_id kept.head kept.is_head

-- ---- a run

module _ (folders : List (List ℕ)) (apart : AreApart folders) where
  lost : (old new : History) → IsRun folders old new → (folder : List ℕ) → Contains folders folder → LosesNothing folder (files_of old) (files_of new)
  lost old new run folder is = runs_lose_nothing folders apart folder is old new (one_more old new nothing run)

  module _ (old new : History) (run : IsRun folders old new) (from : TakesAmong folders (asked_of run.words)) (sound : AreAllSound folders (files_of old)) (one_text : HaveOneTextEach (files_of new) folders)
      (people : SeenPeopleAreSound (files_of old) folders) where
    also : AreAllSound folders (files_of new)
    also = runs_keep_sound folders apart old new (one_more old new nothing run) sound

    grew : (folder : List ℕ) → Contains folders folder → OnlyGrew (objects_after old folder) (objects_after new folder)
    grew folder is = (lost old new run folder is).objects

    -- what a folder held before is of one text with what another holds now
    alike : (peer folder : List ℕ) → Contains folders peer → Contains folders folder → HaveOneText (objects_after old peer) (objects_after new folder)
    alike peer folder is_peer is name text other there here =
        one_text peer folder name text other is_peer is (text_stays (objects_after old peer) (objects_after new peer) (grew peer is_peer) name text there) here

    -- identities that were taken from a sound folder have chains without a fault
    pub people_then : SeenPeopleAreSound (files_of new) folders
    people_then folder remote id top is is_id at = elim (run_keeps folders apart folder is old new run from sound one_text remote word.Identity id is_id) [
      | inl same ↦ (chain_stays (objects_after old folder) (objects_after new folder) (grew folder is) id top (people folder remote id top is is_id (sym same ∙ at))).0
      | inr taken ↦
          let heads : Head taken.head ≡ Head top = sym taken.now ∙ at in
          let same : taken.head ≡ top = cc in
          let was : head_at (files_of old) taken.peer side.Identities id ≡ Head top = subst (λ (name : Name). head_at (files_of old) taken.peer side.Identities id ≡ Head name) same taken.was in
          chain_over (objects_after old taken.peer) (objects_after new folder) (sound taken.peer taken.is parts.Objects).whole (also folder is parts.Objects).whole (alike taken.peer folder taken.is is) top
          (head_held (files_of old) taken.peer side.Identities id top (sound taken.peer taken.is) is_id was) (head_held (files_of new) folder (side.RemoteIdentities remote) id top (also folder is) is_id at) id
          (subst (IsSoundIdentity (objects_after old taken.peer) id) was (sound taken.peer taken.is parts.Identities id is_id))
    ]

    module _ (folder : List ℕ) (remote : RemoteName) (is : Contains folders folder) where
      -- an identity that is seen now is a tracked one
      tracked : (person : Id) (top : Name) → IsId person → head_at (files_of new) folder (side.RemoteIdentities remote) person ≡ Head top → IsTrackedPerson (files_of new) folder remote person
      tracked person top is_person at = record { is_id = is_person; head = top; is_head = at; chain = people_then folder remote person top is is_person at }

      -- who was known stays known
      known_still : (person : Id) → IsLocal (files_of old) folder person ⊎ IsTrackedPerson (files_of old) folder remote person
          → IsLocal (files_of new) folder person ⊎ IsTrackedPerson (files_of new) folder remote person
      known_still person (inl local) = inl (local_stays folder (files_of old) (files_of new) person (sound folder is) (lost old new run folder is) local)
      known_still person (inr was) = elim (run_keeps folders apart folder is old new run from sound one_text remote word.Identity person was.is_id) [
        | inl same ↦ inr (tracked person was.head was.is_id (same ∙ was.is_head))
        | inr taken ↦ inr (tracked person taken.head was.is_id taken.now)
      ]

      -- the authors of a bug that was taken from a sound folder are its local identities, which are tracked
      taken_known : AreAllFlat folders (files_of old) → (id : Id) (top : Name) (node : Loaded BugOp) → IsId id → head_at (files_of new) folder (side.RemoteBugs remote) id ≡ Head top
          → IsNodeBelow bug_kind (objects_after new folder) (top ∷ []) node → IsTaken folders folder remote word.Bug id old new
          → IsTrackedPerson (files_of new) folder remote node.placed.pack.author
      taken_known flat id top node is_id at below taken =
          let heads : Head taken.head ≡ Head top = sym taken.now ∙ at in
          let same : taken.head ≡ top = cc in
          let was : head_at (files_of old) taken.peer side.Bugs id ≡ Head top = subst (λ (name : Name). head_at (files_of old) taken.peer side.Bugs id ≡ Head name) same taken.was in
          let there = author_back (objects_after old taken.peer) (objects_after new folder) (sound taken.peer taken.is parts.Objects).whole (also folder is parts.Objects).whole (alike taken.peer folder taken.is is) top
          (head_held (files_of old) taken.peer side.Bugs id top (sound taken.peer taken.is) is_id was) (head_held (files_of new) folder (side.RemoteBugs remote) id top (also folder is) is_id at) node below in
          let authored = subst (IsAuthoredBug taken.peer (files_of old) id) was (sound taken.peer taken.is parts.Authors id is_id) in
          let local : IsLocal (files_of old) taken.peer node.placed.pack.author = subst (IsLocal (files_of old) taken.peer) there.2 (authored.1 there.0 there.1) in
          let reads = local_head taken.peer (files_of old) node.placed.pack.author (sound taken.peer taken.is) local in
          tracked node.placed.pack.author reads.0 local.is_id (taken.people flat refl node.placed.pack.author reads.0 local.is_id reads.1)

      -- so they are known, if they were
      pub authors_then : AreAllFlat folders (files_of old) → TrackedAuthorsAreKnown (files_of old) folder remote → TrackedAuthorsAreKnown (files_of new) folder remote
      authors_then flat known id top node is_id at below = elim (run_keeps folders apart folder is old new run from sound one_text remote word.Bug id is_id) [
        | inl same ↦
            let was : head_at (files_of old) folder (side.RemoteBugs remote) id ≡ Head top = sym same ∙ at in
            let mine = author_back (objects_after old folder) (objects_after new folder) (sound folder is parts.Objects).whole (also folder is parts.Objects).whole (alike folder folder is is) top
            (head_held (files_of old) folder (side.RemoteBugs remote) id top (sound folder is) is_id was) (head_held (files_of new) folder (side.RemoteBugs remote) id top (also folder is) is_id at) node below in
            known_still node.placed.pack.author
            (subst (λ (person : Id). IsLocal (files_of old) folder person ⊎ IsTrackedPerson (files_of old) folder remote person) mine.2 (known id top mine.0 is_id was mine.1))
        | inr taken ↦ inr (taken_known flat id top node is_id at below taken)
      ]

  -- ---- runs

  -- where no file is, nothing was seen
  none_seen : (folder : List ℕ) (remote : RemoteName) (id : Id) (top : Name) → IsId id
      → (head_at (files_of []) folder (side.RemoteIdentities remote) id ≡ Head top) ⊎ (head_at (files_of []) folder (side.RemoteBugs remote) id ≡ Head top) → ⊥
  none_seen folder remote id top is_id at = elim at [
    | inl person ↦
        let held = head_held (files_of []) folder (side.RemoteIdentities remote) id top (empty_is_sound folder (files_of []) (λ place. refl)) is_id person in
        let none : None ≡ Some held.object = held.is in
        cc none
    | inr bug ↦
        let held = head_held (files_of []) folder (side.RemoteBugs remote) id top (empty_is_sound folder (files_of []) (λ place. refl)) is_id bug in
        let none : None ≡ Some held.object = held.is in
        cc none
  ]

  before_text : (mid new : History) → IsRun folders mid new → HaveOneTextEach (files_of new) folders → HaveOneTextEach (files_of mid) folders
  before_text mid new run one_text = one_text_before folders mid new (λ folder is. (lost mid new run folder is).objects) one_text

  before_sound : (mid : History) → RunsAmong folders [] mid → AreAllSound folders (files_of mid)
  before_sound mid runs = runs_from_nothing folders apart mid (are_runs folders [] mid runs)

  -- from no files at all
  pub all_people : (new : History) → RunsAmong folders [] new → HaveOneTextEach (files_of new) folders → SeenPeopleAreSound (files_of new) folders
  all_people new among.nothing one_text = λ folder remote id top is is_id at. absurd (none_seen folder remote id top is_id (inl at))
  all_people new (among.one_more mid end runs run takes) one_text =
      people_then mid end run takes (before_sound mid runs) one_text (all_people mid runs (before_text mid end run one_text))

  pub all_authors : (new : History) → RunsAmong folders [] new → HaveOneTextEach (files_of new) folders → SeenAuthorsAreKnown (files_of new) folders
  all_authors new among.nothing one_text = λ folder remote is id top node is_id at below. absurd (none_seen folder remote id top is_id (inr at))
  all_authors new (among.one_more mid end runs run takes) one_text = λ folder remote is.
      let text = before_text mid end run one_text in
      authors_then mid end run takes (before_sound mid runs) one_text (all_people mid runs text) folder remote is (runs_flat folders apart mid runs) (all_authors mid runs text folder remote is)
