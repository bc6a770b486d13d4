-- A run leaves what a folder has last seen at remotes, or is a fetch or a pull into it.
use Rattle.std.proofs.Common.{◌≡◌, ◌≢◌, ◌⊎◌, inl, inr, ℕ, true, List, [], ◌++◌, Contains, refl, sym, subst}
use Rattle.gb_text.specs.Digits.{IsId}
use Rattle.gb_text.specs.Overlap.{Overlap}
use Rattle.gb_text.specs.declared.id.Id.{Id}
use Rattle.gb_text.specs.declared.id.Name.{Name}
use Rattle.gb_text.proofs.PathLemmas.{Overlap-mutual}
use Rattle.gb_store.specs.Files.{History, files_of}
use Rattle.gb_store.specs.Moments.{IsMoment, WroteBy}
use Rattle.gb_store.specs.declared.store.Change.{Change}
use Rattle.gb_store.proofs.MomentLemmas.{IsMoment-of_first, WroteBy-before, WroteBy-wider}
use Rattle.bug_edits.specs.declared.moment.Moment.{Moment}
use Rattle.bug_run.specs.Exchanges.{ExchangeWrites}
use Rattle.bug_run.specs.Run.{AskedWrites, call_of}
use Rattle.bug_run.specs.Runs.{AreAllSound, AreApart, IsAmong, IsRun, StaysAmong, nothing, one_more}
use Rattle.bug_run.proofs.RunLemmas.{of_kinds, of_rows, run_wrote}
use Rattle.bug_run.proofs.RunsLemmas.{runs_keep_sound}
use Rattle.ref_store.specs.Refs.{Head}
use Rattle.remote_name.specs.declared.remote.RemoteName.{RemoteName}
use Rattle.repo_state.specs.Sides.{head_at}
use Rattle.repo_state.specs.Sound.{AreWhole, IsSound}
use Rattle.repo_state.specs.Sound as parts
use Rattle.repo_state.specs.declared.side.Side.TheVariants as side
use Rattle.repo_state.proofs.PlaceLemmas.{same_or_other}
use Rattle.repo_writes.proofs.SoundLemmas.{write-place}
use Rattle.repo_writes.proofs.StayLemmas.{IsAtPlace}
use Rattle.sync_steps.specs.Places.{local_side}
use Rattle.sync_steps.specs.declared.line.EntityWord.{EntityWord}
use Rattle.sync_steps.specs.declared.line.EntityWord.TheVariants as word
use Rattle.sync_writes.proofs.PlaceLemmas.{fetch-place}
use Rattle.words.specs.Words.{asked_of}
use Rattle.words.specs.declared.pair.FolderPair.{FolderPair}
use Rattle.words.specs.declared.words.Asked.{Asked}
use Rattle.words.specs.declared.words.Asked.TheVariants as asked
use Rattle.words.specs.declared.words.PeerCommand.{PeerCommand}
use Rattle.words.specs.declared.words.PeerCommand.TheVariants.{Fetch, Pull, Push}
use Rattle.words.proofs.PairLemmas.{apart_of}
use Rattle.full_exchanges.specs.Having.{HaveOneTextEach}
use Rattle.exchange_runs.specs.Takes.{TakesAmong}
use Rattle.flat_trees.specs.Flat.{AreAllFlat}
use Rattle.flat_trees.proofs.EntityLemmas.{entities_flat}
use Rattle.identity_runs.proofs.TrackedPullLemmas.{PullRule, pull_keeps}
use Rattle.identity_runs.proofs.RefLemmas.{IsLeft, IsThisOrApart, apart_leaves, kinds_leave, left_by, packs_leave, pushes_leave, seen_at}

-- what is written for what is asked leaves what the folder has last seen, or takes from one of the folders
data Moves (folders : List (List ℕ)) (folder : List ℕ) (old new : History) : Type 0 where
  leaves : IsLeft folder (files_of old) (files_of new) → Moves folders folder old new
  takes : (peer : List ℕ) (other : RemoteName) → Contains folders peer → (Overlap peer folder → ⊥) → WroteBy (PullRule folder peer other) old new → Moves folders folder old new

-- what the folder has last seen of an entity is what one of the folders had; and of a bug, it has last seen each identity as that one had it, if the trees of the folders were flat
pub record IsTaken (folders : List (List ℕ)) (folder : List ℕ) (remote : RemoteName) (kind : EntityWord) (id : Id) (old new : History) : Type 0 where
  pub peer : List ℕ
  pub is : Contains folders peer
  pub head : Name
  pub now : seen_at folder remote kind id (files_of new) ≡ Head head
  pub was : head_at (files_of old) peer (local_side kind) id ≡ Head head
  pub people : AreAllFlat folders (files_of old) → kind ≡ word.Bug → (person : Id) (top : Name) → IsId person
      → head_at (files_of old) peer side.Identities person ≡ Head top → seen_at folder remote word.Identity person (files_of new) ≡ Head top

-- what a run writes up to where it stops
run_writes : (folders : List (List ℕ)) (old new : History) (run : IsRun folders old new) → WroteBy (AskedWrites (asked_of run.words) run.moment) old new
run_writes folders old new run =
    let call = call_of true run.sink_tells run.takes_memory (asked_of run.words) run.moment in
    WroteBy-before (AskedWrites (asked_of run.words) run.moment) old run.end new (run_wrote call old run.end run.before run.after run.status refl run.answers) run.stop

-- a run may stop at each moment
abbrev stopped : (folders : List (List ℕ)) (old new moment : History) → IsRun folders old new → IsMoment old new moment → IsRun folders old moment
stopped folders old new moment run at = record {
  words = run.words;
  place = run.place;
  moment = run.moment;
  end = run.end;
  sink_tells = run.sink_tells;
  takes_memory = run.takes_memory;
  before = run.before;
  after = run.after;
  status = run.status;
  answers = run.answers;
  stop = IsMoment-of_first old new run.end moment at (record { later = run.stop.later; done = []; before = refl; after = run.stop.after });
}

-- so the folders are sound at each
sound_at : (folders : List (List ℕ)) → AreApart folders → (old new : History) → IsRun folders old new → AreAllSound folders (files_of old)
    → (moment : History) → IsMoment old new moment → AreAllSound folders (files_of moment)
sound_at folders apart old new run sound moment at = runs_keep_sound folders apart old moment (one_more old moment nothing (stopped folders old new moment run at)) sound

module _ (folders : List (List ℕ)) (apart : AreApart folders) (folder : List ℕ) (is : Contains folders folder) where
  this_or_apart : (other : List ℕ) → IsAmong folders other → IsThisOrApart folder other
  this_or_apart other (inr none) = inr (λ overlap. none folder is overlap)
  this_or_apart other (inl also) = by (same_or_other other folder)
    where
      by : (other ≡ folder) ⊎ (other ≢ folder) → IsThisOrApart folder other
      by (inl same) = inl same
      by (inr differ) = inr (λ overlap. differ (sym (apart folder other is also overlap)))

  -- a fetch or a pull
  pulled : (pair : FolderPair) (other : RemoteName) → IsThisOrApart folder pair.own → (Contains folders pair.own → Contains folders pair.peer) → (old new : History)
      → WroteBy (PullRule pair.own pair.peer other) old new → Moves folders folder old new
  pulled pair other (inr far) from old new wrote =
      leaves (left_by folder (PullRule pair.own pair.peer other) old new (λ earlier change may. apart_leaves folder pair.own far (files_of (earlier ++ old)) change (place earlier change may)) wrote)
    where
      place : (earlier : List Change) (change : Change) → PullRule pair.own pair.peer other old earlier change → IsAtPlace pair.own change
      place earlier change (inl fetched) = fetch-place pair.own pair.peer other old earlier change fetched
      place earlier change (inr merged) = write-place pair.own (files_of (earlier ++ old)) change merged
  pulled pair other (inl same) from old new wrote =
      takes pair.peer other (from (subst (Contains folders) (sym same) is))
      (λ overlap. apart_of pair.own pair.peer pair.apart (subst (λ (f : List ℕ). Overlap f pair.peer) (sym same) (Overlap-mutual pair.peer folder overlap)))
      (subst (λ (f : List ℕ). WroteBy (PullRule f pair.peer other) old new) same wrote)

  exchanged : (command : PeerCommand) (pair : FolderPair) → StaysAmong folders (asked.Exchange (record { pair = pair; command = command })) → TakesAmong folders (asked.Exchange (record { pair = pair; command = command }))
      → (old new : History) → WroteBy (ExchangeWrites command pair) old new → Moves folders folder old new
  exchanged (Fetch other) pair place from old new wrote =
      pulled pair other (this_or_apart pair.own place.0) from old new
      (WroteBy-wider (ExchangeWrites (Fetch other) pair) (PullRule pair.own pair.peer other) old new (λ (earlier : List Change) (change : Change) may. inl may) wrote)
  exchanged (Pull other) pair place from old new wrote = pulled pair other (this_or_apart pair.own place.0) from old new wrote
  exchanged Push pair place from old new wrote = leaves (pushes_leave folder pair.own pair.peer (this_or_apart pair.peer place.0) old new wrote)

  asked_moves : (asks : Asked) (moment : Moment) → StaysAmong folders asks → TakesAmong folders asks → (old new : History) → WroteBy (AskedWrites asks moment) old new → Moves folders folder old new
  asked_moves asked.Nothing moment place from old new wrote = leaves (left_by folder (AskedWrites asked.Nothing moment) old new (λ earlier change may. absurd may) wrote)
  asked_moves (asked.Refused bad) moment place from old new wrote = leaves (left_by folder (AskedWrites (asked.Refused bad) moment) old new (λ earlier change may. absurd may) wrote)
  asked_moves (asked.Request request) moment place from old new wrote =
      let at = this_or_apart request.folder place in
      elim (of_kinds request moment old new wrote) [
        | inl writes ↦ leaves (kinds_leave folder request.folder at old new writes)
        | inr packs ↦ leaves (packs_leave folder request.folder at old new packs)
      ]
  asked_moves (asked.Exchange request) moment place from old new wrote = exchanged request.command request.pair place from old new wrote
  asked_moves (asked.Merge request) moment place from old new wrote = leaves (kinds_leave folder request.folder (this_or_apart request.folder place) old new wrote)
  asked_moves (asked.List request) moment place from old new wrote =
      leaves (kinds_leave folder request.folder (this_or_apart request.folder place) old new (of_rows request.folder old new wrote))

  module _ (old new : History) (run : IsRun folders old new) (from : TakesAmong folders (asked_of run.words)) (sound : AreAllSound folders (files_of old)) (one_text : HaveOneTextEach (files_of new) folders) where
    run_moves : Moves folders folder old new
    run_moves = asked_moves (asked_of run.words) run.moment run.place from old new (run_writes folders old new run)

    -- so a tracking ref is as it was, or has the head that one of the folders had
    pub run_keeps : (remote : RemoteName) (kind : EntityWord) (id : Id) → IsId id
        → (seen_at folder remote kind id (files_of new) ≡ seen_at folder remote kind id (files_of old)) ⊎ IsTaken folders folder remote kind id old new
    run_keeps remote kind id is_id = by run_moves
      where
        by : Moves folders folder old new
            → (seen_at folder remote kind id (files_of new) ≡ seen_at folder remote kind id (files_of old)) ⊎ IsTaken folders folder remote kind id old new
        by (leaves left) = inl (left remote kind id)
        by (takes peer other is_peer away wrote) =
            elim (pull_keeps folder peer other away old new wrote (λ moment at. (sound_at folders apart old new run sound moment at peer is_peer, sound_at folders apart old new run sound moment at folder is parts.Objects))
            (λ name text another here there. one_text peer folder name text another is_peer is here there) remote kind id is_id) [
              | inl stays ↦ inl stays
              | inr set ↦ inr (record { peer = peer; is = is_peer; head = set.head; now = set.now; was = set.was; people = λ flat bug. set.people (entities_flat peer (files_of old) (sound peer is_peer) (flat peer is_peer)) bug })
            ]
