-- What a folder has last seen of a bug at a remote stays, or was brought by a fetch from a peer.
use Rattle.std.proofs.Common.{◌≡◌, ◌≢◌, ◌⊎◌, inl, inr, ℕ, true, List, [], ◌++◌, Contains, refl, sym, ◌∙◌, ap, subst}
use Rattle.gb_text.specs.Digits.{IsId}
use Rattle.gb_text.specs.Overlap.{Overlap}
use Rattle.gb_text.specs.declared.id.Id.{Id}
use Rattle.gb_text.specs.declared.id.Name.{Name}
use Rattle.gb_text.proofs.PathLemmas.{Overlap-mutual}
use Rattle.gb_store.specs.Files.{Files, History, files_of, written}
use Rattle.gb_store.specs.Moments.{IsMoment, Wrote, WroteBy, at_moment}
use Rattle.gb_store.specs.declared.store.Change.{Change}
use Rattle.gb_store.proofs.MomentLemmas.{AllMoments-from_WroteBy, WroteBy-before, WroteBy-wider}
use Rattle.bug_edits.specs.declared.moment.Moment.{Moment}
use Rattle.bug_run.specs.Exchanges.{ExchangeWrites}
use Rattle.bug_run.specs.Run.{AskedWrites, call_of}
use Rattle.bug_run.specs.Runs.{AreApart, IsAmong, IsRun, StaysAmong}
use Rattle.bug_run.proofs.RunLemmas.{of_kinds, of_rows, run_wrote}
use Rattle.ref_packing.specs.Kinds.{IsPackWrite}
use Rattle.ref_store.specs.Refs.{Ref, Head}
use Rattle.ref_store.specs.Setting.{ref_write}
use Rattle.ref_store.proofs.FrameLemmas.{head_is_name}
use Rattle.remote_name.specs.declared.remote.RemoteName.{RemoteName}
use Rattle.remote_name.proofs.RemoteLemmas.{one_remote}
use Rattle.repo_state.specs.Sides.{head_at, ref_place}
use Rattle.repo_state.specs.declared.side.Side.TheVariants as side
use Rattle.repo_state.proofs.KindLemmas.{head_at-clock_write, head_at-object_write, head_at-other_side, head_at-ref_write, head_at-row_write, head_at-user_write}
use Rattle.repo_state.proofs.PlaceLemmas.{same_or_other}
use Rattle.repo_writes.specs.Kinds.{IsWrite}
use Rattle.repo_writes.proofs.PackLemmas.{pack-says_same, pack_apart}
use Rattle.repo_writes.proofs.SoundLemmas.{by_kind, clock_after, write-place}
use Rattle.repo_writes.proofs.StayLemmas.{IsAtPlace, stay-apart}
use Rattle.row_text.specs.Rows.{row_text}
use Rattle.sync_steps.specs.Places.{local_side, tracking_side}
use Rattle.sync_steps.specs.declared.line.EntityWord.{EntityWord}
use Rattle.sync_steps.specs.declared.line.EntityWord.TheVariants as word
use Rattle.sync_steps.specs.Writes.{IsTrackingWrite}
use Rattle.sync_writes.specs.Kinds.{FetchWrites, PushWrites}
use Rattle.sync_writes.proofs.PlaceLemmas.{fetch-place, push-place}
use Rattle.words.specs.Words.{asked_of}
use Rattle.words.specs.declared.pair.FolderPair.{FolderPair}
use Rattle.words.specs.declared.words.Asked.{Asked}
use Rattle.words.specs.declared.words.Asked.TheVariants as asked
use Rattle.words.specs.declared.words.PeerCommand.{PeerCommand}
use Rattle.words.specs.declared.words.PeerCommand.TheVariants.{Fetch, Pull, Push}
use Rattle.words.proofs.PairLemmas.{apart_of}
use Rattle.full_exchanges.specs.Leaving.{IsUntouched}
use Rattle.full_exchanges.proofs.HasLemmas.{same_heads}
use Rattle.exchange_runs.specs.Takes.{TakesAmong}

-- the last moment of a call
last_moment : (Rule : History → List Change → Change → Type 0) (old new : History) → WroteBy Rule old new → IsMoment old new new
last_moment Rule old new wrote = record { later = []; done = wrote.writes; before = wrote.grew; after = refl }

-- what each write of a call keeps holds in the end
in_the_end : (Rule : History → List Change → Change → Type 0) (Good : Files → Type 0) (old new : History)
    → ((earlier : List Change) (change : Change) → Good (files_of (earlier ++ old)) → Rule old earlier change → Good (written (files_of (earlier ++ old)) change))
    → Good (files_of old) → WroteBy Rule old new → Good (files_of new)
in_the_end Rule Good old new keeps good wrote = (AllMoments-from_WroteBy Rule Good old new keeps good wrote).each new (last_moment Rule old new wrote)

-- what a pull may write
abbrev PullRule : List ℕ → List ℕ → RemoteName → History → List Change → Change → Type 0
PullRule own peer other entry earlier change = FetchWrites own peer other entry earlier change ⊎ IsWrite own (files_of (earlier ++ entry)) change

module _ (folder : List ℕ) (remote : RemoteName) (id : Id) where
  -- the ref at which the folder has last seen the bug
  abbrev seen_at : Files → Ref
  seen_at files = head_at files folder (side.RemoteBugs remote) id

  -- a write of a kind in the folder leaves it
  kind_leaves : (files : Files) (change : Change) → IsWrite folder files change → seen_at (written files change) ≡ seen_at files
  kind_leaves files change = by_kind folder files change (λ (c : Change). seen_at (written files c) ≡ seen_at files)
      (λ w. head_at-object_write files folder w.puts.text (side.RemoteBugs remote) id)
      (λ w. head_at-other_side files folder side.Identities (side.RemoteBugs remote) w.id id w.head (λ e. cc e))
      (λ w. head_at-user_write files folder (side.RemoteBugs remote) id w.id)
      (λ w. head_at-other_side files folder side.Bugs (side.RemoteBugs remote) w.id id w.head (λ e. cc e))
      (λ w. head_at-clock_write files folder (side.RemoteBugs remote) id w.which (clock_after folder files change w))
      (λ w. head_at-row_write files folder (side.RemoteBugs remote) id w.id (row_text w.row))

  -- a write below a folder apart leaves it
  apart_leaves : (other : List ℕ) → (Overlap folder other → ⊥) → (files : Files) (change : Change) → IsAtPlace other change → seen_at (written files change) ≡ seen_at files
  apart_leaves other apart files change at = same_heads folder files (written files change) (stay-apart folder other apart files change at) (side.RemoteBugs remote) id

  -- the folder, or one apart from it
  abbrev IsThisOrApart : List ℕ → Type 0
  IsThisOrApart other = (other ≡ folder) ⊎ (Overlap folder other → ⊥)

  -- calls that write by kinds, packs and pushes leave it
  kinds_leave : (other : List ℕ) → IsThisOrApart other → (old new : History) → Wrote (IsWrite other) old new → seen_at (files_of new) ≡ seen_at (files_of old)
  kinds_leave other at old new wrote =
      in_the_end (at_moment (IsWrite other)) (λ (files : Files). seen_at files ≡ seen_at (files_of old)) old new
      (λ earlier change so_far may. each at (files_of (earlier ++ old)) change may ∙ so_far) refl wrote
    where
      each : IsThisOrApart other → (files : Files) (change : Change) → IsWrite other files change → seen_at (written files change) ≡ seen_at files
      each (inl same) files change may = kind_leaves files change (subst (λ (f : List ℕ). IsWrite f files change) same may)
      each (inr apart) files change may = apart_leaves other apart files change (write-place other files change may)

  packs_leave : (other : List ℕ) → IsThisOrApart other → (old new : History) → Wrote (IsPackWrite other) old new → seen_at (files_of new) ≡ seen_at (files_of old)
  packs_leave other at old new wrote =
      in_the_end (at_moment (IsPackWrite other)) (λ (files : Files). seen_at files ≡ seen_at (files_of old)) old new
      (λ earlier change so_far may. each at (files_of (earlier ++ old)) change may ∙ so_far) refl wrote
    where
      each : IsThisOrApart other → (files : Files) (change : Change) → IsPackWrite other files change → seen_at (written files change) ≡ seen_at files
      each (inl same) files change may = (pack-says_same folder files change (subst (λ (f : List ℕ). IsPackWrite f files change) same may)).heads (side.RemoteBugs remote) id
      each (inr apart) files change may = same_heads folder files (written files change) (pack_apart folder other apart files change may) (side.RemoteBugs remote) id

  pushes_leave : (own peer : List ℕ) → IsThisOrApart peer → (old new : History) → Wrote (PushWrites own peer) old new → seen_at (files_of new) ≡ seen_at (files_of old)
  pushes_leave own peer at old new wrote =
      in_the_end (at_moment (PushWrites own peer)) (λ (files : Files). seen_at files ≡ seen_at (files_of old)) old new
      (λ earlier change so_far may. each at (files_of (earlier ++ old)) change may ∙ so_far) refl wrote
    where
      local_other : (word : EntityWord) → local_side word ≢ side.RemoteBugs remote
      local_other word.Identity e = cc e
      local_other word.Bug e = cc e

      mine : (files : Files) (change : Change) → PushWrites own folder files change → seen_at (written files change) ≡ seen_at files
      mine files change (inl puts) =
          ap (λ (c : Change). seen_at (written files c)) puts.1.write ∙ head_at-object_write files folder puts.1.text (side.RemoteBugs remote) id
      mine files change (inr head) =
          let set = head.set in
          ap (λ (c : Change). seen_at (written files c)) set.write
          ∙ head_at-other_side files folder (local_side set.word) (side.RemoteBugs remote) set.id id set.head (local_other set.word)

      each : IsThisOrApart peer → (files : Files) (change : Change) → PushWrites own peer files change → seen_at (written files change) ≡ seen_at files
      each (inl same) files change may = mine files change (subst (λ (f : List ℕ). PushWrites own f files change) same may)
      each (inr apart) files change may = apart_leaves peer apart files change (push-place own peer files change may)

  -- ---- fetches

  -- it is as it was, or has the head that the peer had of the bug
  abbrev IsKept : List ℕ → Files → Files → Type 0
  IsKept peer old files = (seen_at files ≡ seen_at old) ⊎ ((head : Name) × (seen_at files ≡ Head head) × (head_at old peer side.Bugs id ≡ Head head))

  stay_kept : (peer : List ℕ) (old files later : Files) → seen_at later ≡ seen_at files → IsKept peer old files → IsKept peer old later
  stay_kept peer old files later same (inl was) = inl (same ∙ was)
  stay_kept peer old files later same (inr (head, at, was)) = inr (head, same ∙ at, was)

  -- a write of a fetch in the folder, where the peer is as it was
  module _ (is_id : IsId id) (peer : List ℕ) (other : RemoteName) (old : Files) where
    -- the write of a tracking ref
    set_keeps : (files : Files) (change : Change) → ((one : Id) → head_at files peer side.Bugs one ≡ head_at old peer side.Bugs one) → IsKept peer old files
        → IsTrackingWrite folder peer other files change → IsKept peer old (written files change)
    set_keeps files change still kept set = by set.word refl
      where
        written_by : (w : EntityWord) → set.word ≡ w → seen_at (written files change) ≡ seen_at (written files (ref_write folder (ref_place (tracking_side other w) set.id) set.head))
        written_by w is =
            ap (λ (c : Change). seen_at (written files c)) set.write
            ∙ ap (λ (one : EntityWord). seen_at (written files (ref_write folder (ref_place (tracking_side other one) set.id) set.head))) is

        elsewhere : (w : EntityWord) → set.word ≡ w → tracking_side other w ≢ side.RemoteBugs remote → IsKept peer old (written files change)
        elsewhere w is differ =
            stay_kept peer old files (written files change) (written_by w is ∙ head_at-other_side files folder (tracking_side other w) (side.RemoteBugs remote) set.id id set.head differ) kept

        here : set.word ≡ word.Bug → other ≡ remote → IsKept peer old (written files change)
        here is same =
            let at : head_at files peer side.Bugs set.id ≡ Head set.head = subst (λ (w : EntityWord). head_at files peer (local_side w) set.id ≡ Head set.head) is set.is_peers in
            let write : seen_at (written files change) ≡ seen_at (written files (ref_write folder (ref_place (side.RemoteBugs remote) set.id) set.head))
            = written_by word.Bug is ∙ ap (λ (r : RemoteName). seen_at (written files (ref_write folder (ref_place (side.RemoteBugs r) set.id) set.head))) same in
            elim (head_at-ref_write files folder (side.RemoteBugs remote) set.id id set.head set.is_id is_id (head_is_name files peer (ref_place side.Bugs set.id) set.head at)) [
              | inl stays ↦ stay_kept peer old files (written files change) (write ∙ stays) kept
              | inr set_now ↦
                  inr (set.head, write ∙ set_now.1, sym (still id) ∙ subst (λ (one : Id). head_at files peer side.Bugs one ≡ Head set.head) set_now.0 at)
            ]

        by : (w : EntityWord) → set.word ≡ w → IsKept peer old (written files change)
        by word.Identity is = elsewhere word.Identity is (λ e. cc e)
        by word.Bug is = elim (same_or_other other.text remote.text) [
          | inl same ↦ here is (one_remote other remote same)
          | inr differ ↦ elsewhere word.Bug is (λ e. let same : other ≡ remote = cc e in differ (ap (λ (r : RemoteName). r.text) same))
        ]

  -- a pull keeps it so, where the peer does not overlap the folder
  module _ (is_id : IsId id) (peer : List ℕ) (other : RemoteName) (apart : Overlap peer folder → ⊥) (old : History) where
    -- what is so of the peer and of the ref so far
    record SoFar (files : Files) : Type 0 where
      pub untouched : IsUntouched peer (files_of old) files
      pub kept : IsKept peer (files_of old) files

    abbrev Rule : History → List Change → Change → Type 0
    Rule = PullRule folder peer other

    placed : (earlier : List Change) (change : Change) → Rule old earlier change → IsAtPlace folder change
    placed earlier change (inl fetched) = fetch-place folder peer other old earlier change fetched
    placed earlier change (inr merged) = write-place folder (files_of (earlier ++ old)) change merged

    kept_on : (earlier : List Change) (change : Change) → SoFar (files_of (earlier ++ old)) → Rule old earlier change → IsKept peer (files_of old) (written (files_of (earlier ++ old)) change)
    kept_on earlier change so_far (inl (inl puts)) =
        let files = files_of (earlier ++ old) in
        stay_kept peer (files_of old) files (written files change)
        (ap (λ (c : Change). seen_at (written files c)) puts.1.write ∙ head_at-object_write files folder puts.1.text (side.RemoteBugs remote) id) so_far.kept
    kept_on earlier change so_far (inl (inr head)) =
        set_keeps is_id peer other (files_of old) (files_of (earlier ++ old)) change
        (λ one. same_heads peer (files_of old) (files_of (earlier ++ old)) so_far.untouched side.Bugs one) so_far.kept head.set
    kept_on earlier change so_far (inr merged) =
        let files = files_of (earlier ++ old) in
        stay_kept peer (files_of old) files (written files change) (kind_leaves files change merged) so_far.kept

    pulls_keep : (new : History) → WroteBy Rule old new → SoFar (files_of new)
    pulls_keep new wrote = in_the_end Rule SoFar old new step (record { untouched = λ rest plain. refl; kept = inl refl }) wrote
      where
        step : (earlier : List Change) (change : Change) → SoFar (files_of (earlier ++ old)) → Rule old earlier change → SoFar (written (files_of (earlier ++ old)) change)
        step earlier change so_far may = record {
          untouched = λ rest plain. stay-apart peer folder apart (files_of (earlier ++ old)) change (placed earlier change may) rest plain ∙ so_far.untouched rest plain;
          kept = kept_on earlier change so_far may;
        }

-- ---- a run

-- the bug that a peer had was taken from it
pub record IsTaken (folders : List (List ℕ)) (folder : List ℕ) (remote : RemoteName) (id : Id) (old new : Files) : Type 0 where
  pub peer : List ℕ
  pub is : Contains folders peer
  pub head : Name
  pub now : head_at new folder (side.RemoteBugs remote) id ≡ Head head
  pub was : head_at old peer side.Bugs id ≡ Head head
  pub untouched : IsUntouched peer old new

module _ (folders : List (List ℕ)) (apart : AreApart folders) (folder : List ℕ) (is : Contains folders folder) (remote : RemoteName) (id : Id) (is_id : IsId id) where
  -- the ref stays, or it has the head that one of the folders had
  abbrev StaysOrIsTaken : Files → Files → Type 0
  StaysOrIsTaken old new = (head_at new folder (side.RemoteBugs remote) id ≡ head_at old folder (side.RemoteBugs remote) id) ⊎ IsTaken folders folder remote id old new

  this_or_apart : (other : List ℕ) → IsAmong folders other → IsThisOrApart folder remote id other
  this_or_apart other (inr none) = inr (λ overlap. none folder is overlap)
  this_or_apart other (inl also) = by (same_or_other other folder)
    where
      by : (other ≡ folder) ⊎ (other ≢ folder) → IsThisOrApart folder remote id other
      by (inl same) = inl same
      by (inr differ) = inr (λ overlap. differ (sym (apart folder other is also overlap)))

  pulled : (pair : FolderPair) (other : RemoteName) → IsThisOrApart folder remote id pair.own → (Contains folders pair.own → Contains folders pair.peer) → (old new : History)
      → WroteBy (ExchangeWrites (Pull other) pair) old new → StaysOrIsTaken (files_of old) (files_of new)
  pulled pair other (inr far) takes old new wrote =
      inl (in_the_end (ExchangeWrites (Pull other) pair) (λ (files : Files). seen_at folder remote id files ≡ seen_at folder remote id (files_of old)) old new
      (λ earlier change so_far may. apart_leaves folder remote id pair.own far (files_of (earlier ++ old)) change (place earlier change may) ∙ so_far) refl wrote)
    where
      place : (earlier : List Change) (change : Change) → ExchangeWrites (Pull other) pair old earlier change → IsAtPlace pair.own change
      place earlier change (inl fetched) = fetch-place pair.own pair.peer other old earlier change fetched
      place earlier change (inr merged) = write-place pair.own (files_of (earlier ++ old)) change merged
  pulled pair other (inl same) takes old new wrote = by so_far.kept
    where
      so_far : SoFar folder remote id is_id pair.peer other (λ overlap. apart_of pair.own pair.peer pair.apart (subst (λ (f : List ℕ). Overlap f pair.peer) (sym same) (Overlap-mutual pair.peer folder overlap))) old (files_of new)
      so_far =
          pulls_keep folder remote id is_id pair.peer other (λ overlap. apart_of pair.own pair.peer pair.apart (subst (λ (f : List ℕ). Overlap f pair.peer) (sym same) (Overlap-mutual pair.peer folder overlap))) old new
          (subst (λ (f : List ℕ). WroteBy (PullRule f pair.peer other) old new) same wrote)

      by : IsKept folder remote id pair.peer (files_of old) (files_of new) → StaysOrIsTaken (files_of old) (files_of new)
      by (inl stays) = inl stays
      by (inr (head, now, was)) = inr (record {
        peer = pair.peer;
        is = takes (subst (Contains folders) (sym same) is);
        head = head;
        now = now;
        was = was;
        untouched = so_far.untouched;
      })

  exchanged : (command : PeerCommand) (pair : FolderPair) → StaysAmong folders (asked.Exchange (record { pair = pair; command = command })) → TakesAmong folders (asked.Exchange (record { pair = pair; command = command }))
      → (old new : History) → WroteBy (ExchangeWrites command pair) old new → StaysOrIsTaken (files_of old) (files_of new)
  exchanged (Fetch other) pair place takes old new wrote =
      pulled pair other (this_or_apart pair.own place.0) takes old new
      (WroteBy-wider (ExchangeWrites (Fetch other) pair) (ExchangeWrites (Pull other) pair) old new (λ (earlier : List Change) (change : Change) may. inl may) wrote)
  exchanged (Pull other) pair place takes old new wrote = pulled pair other (this_or_apart pair.own place.0) takes old new wrote
  exchanged Push pair place takes old new wrote = inl (pushes_leave folder remote id pair.own pair.peer (this_or_apart pair.peer place.0) old new wrote)

  asked_leaves : (asks : Asked) (moment : Moment) → StaysAmong folders asks → TakesAmong folders asks → (old new : History) → WroteBy (AskedWrites asks moment) old new → StaysOrIsTaken (files_of old) (files_of new)
  asked_leaves asked.Nothing moment place takes old new wrote =
      inl (in_the_end (AskedWrites asked.Nothing moment) (λ (files : Files). seen_at folder remote id files ≡ seen_at folder remote id (files_of old)) old new (λ earlier change so_far may. absurd may) refl wrote)
  asked_leaves (asked.Refused bad) moment place takes old new wrote =
      inl (in_the_end (AskedWrites (asked.Refused bad) moment) (λ (files : Files). seen_at folder remote id files ≡ seen_at folder remote id (files_of old)) old new (λ earlier change so_far may. absurd may) refl wrote)
  asked_leaves (asked.Request request) moment place takes old new wrote =
      let at = this_or_apart request.folder place in
      elim (of_kinds request moment old new wrote) [
        | inl writes ↦ inl (kinds_leave folder remote id request.folder at old new writes)
        | inr packs ↦ inl (packs_leave folder remote id request.folder at old new packs)
      ]
  asked_leaves (asked.Exchange request) moment place takes old new wrote = exchanged request.command request.pair place takes old new wrote
  asked_leaves (asked.Merge request) moment place takes old new wrote = inl (kinds_leave folder remote id request.folder (this_or_apart request.folder place) old new wrote)
  asked_leaves (asked.List request) moment place takes old new wrote =
      inl (kinds_leave folder remote id request.folder (this_or_apart request.folder place) old new (of_rows request.folder old new wrote))

  -- at the moment where a run stops, the ref is as it was, or it has the head that one of the folders had
  pub run_leaves : (old new : History) (run : IsRun folders old new) → TakesAmong folders (asked_of run.words) → StaysOrIsTaken (files_of old) (files_of new)
  run_leaves old new run takes =
      let call = call_of true run.sink_tells run.takes_memory (asked_of run.words) run.moment in
      asked_leaves (asked_of run.words) run.moment run.place takes old new
      (WroteBy-before (AskedWrites (asked_of run.words) run.moment) old run.end new (run_wrote call old run.end run.before run.after run.status refl run.answers) run.stop)
