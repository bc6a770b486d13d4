-- What a fetch or a pull from a peer leaves of the folder's tracking refs: each is as it was, or has the head that the peer has.
use Rattle.std.proofs.Common.{◌≡◌, ◌≢◌, ◌⊎◌, inl, inr, true, ℕ, List, [], ◌∷◌, ◌++◌, append_assoc, refl, sym, ◌∙◌, ap, subst}
use Rattle.gb_text.specs.Digits.{IsId}
use Rattle.gb_text.specs.Overlap.{Overlap}
use Rattle.gb_text.specs.declared.id.Id.{Id}
use Rattle.gb_text.specs.declared.id.Name.{Name}
use Rattle.gb_store.specs.Files.{Files, History, files_of, written}
use Rattle.gb_store.specs.Moments.{EachWrite, IsMoment, Wrote, WroteBy, at_moment}
use Rattle.gb_store.specs.declared.store.Change.{Change}
use Rattle.gb_store.proofs.MomentLemmas.{AllMoments-from_Wrote, AllMoments-from_WroteBy, IsMoment-of_first, WroteBy-after, WroteBy-wider, at_moment-from_later}
use Rattle.object_store.specs.Growth.{OnlyGrew}
use Rattle.object_store.specs.Held.{Objects, objects_after, objects_in, text_at}
use Rattle.object_store.proofs.GrowthLemmas.{OnlyGrew-none, OnlyGrew-then, text_stays}
use Rattle.dag_entity.specs.Folders.{HaveOneText}
use Rattle.bug_run.proofs.UserStayLemmas.{last_moment}
use Rattle.ref_store.specs.Refs.{Head}
use Rattle.ref_store.specs.Setting.{ref_write}
use Rattle.ref_store.proofs.FrameLemmas.{head_is_name}
use Rattle.remote_name.specs.declared.remote.RemoteName.{RemoteName}
use Rattle.remote_name.proofs.RemoteLemmas.{one_remote}
use Rattle.repo_state.specs.Sides.{head_at, ref_place}
use Rattle.repo_state.specs.Sound.{AreWhole, IsSound}
use Rattle.repo_state.specs.declared.side.Side.TheVariants as side
use Rattle.repo_state.proofs.KindLemmas.{head_at-object_write, head_at-other_side, head_at-ref_write}
use Rattle.repo_state.proofs.PlaceLemmas.{same_or_other}
use Rattle.repo_writes.specs.Kinds.{IsWrite}
use Rattle.repo_writes.proofs.SoundLemmas.{write-grew, write-place}
use Rattle.repo_writes.proofs.StayLemmas.{IsAtPlace, stay-apart}
use Rattle.sync_steps.specs.Carrying.{fault_of}
use Rattle.sync_steps.specs.Places.{local_side, tracking_side}
use Rattle.sync_steps.specs.declared.line.EntityWord.{EntityWord}
use Rattle.sync_steps.specs.declared.line.EntityWord.TheVariants as word
use Rattle.sync_writes.specs.Kinds.{ArePeopleTracked, FetchWrites, HadCause, IsTrackingHeadWrite}
use Rattle.sync_writes.proofs.FetchKeptLemmas.{fetch-loses_nothing}
use Rattle.sync_writes.proofs.PlaceLemmas.{fetch-place}
use Rattle.full_exchanges.specs.Leaving.{IsUntouched}
use Rattle.full_exchanges.proofs.HasLemmas.{same_heads, same_objects}
use Rattle.copy_limits.specs.Flat.{HasFlatEntities, HasFlatTrees}
use Rattle.copy_limits.proofs.SoundLemmas.{sound_none}
use Rattle.identity_runs.proofs.RefLemmas.{kind_leaves, seen_at}

-- what a fetch or a pull may write
abbrev pub PullRule : List ℕ → List ℕ → RemoteName → History → List Change → Change → Type 0
PullRule own peer other entry earlier change = FetchWrites own peer other entry earlier change ⊎ IsWrite own (files_of (earlier ++ entry)) change

-- two tracking refs are of one remote and of one kind of entity, or on different sides
same_side : (other remote : RemoteName) (one kind : EntityWord) → ((one ≡ kind) × (other ≡ remote)) ⊎ (tracking_side other one ≢ tracking_side remote kind)
same_side other remote word.Identity word.Bug = inr (λ e. cc e)
same_side other remote word.Bug word.Identity = inr (λ e. cc e)
same_side other remote word.Identity word.Identity = elim (same_or_other other.text remote.text) [
  | inl same ↦ inl (refl, one_remote other remote same)
  | inr differ ↦ inr (λ e. let same : other ≡ remote = cc e in differ (ap (λ (r : RemoteName). r.text) same))
]
same_side other remote word.Bug word.Bug = elim (same_or_other other.text remote.text) [
  | inl same ↦ inl (refl, one_remote other remote same)
  | inr differ ↦ inr (λ e. let same : other ≡ remote = cc e in differ (ap (λ (r : RemoteName). r.text) same))
]

-- the change only adds objects of a folder
abbrev AddsAlone : List ℕ → Files → Change → Type 0
AddsAlone folder files change = OnlyGrew (objects_in files folder) (objects_in (written files change) folder)

module _ (folder peer : List ℕ) (other : RemoteName) (away : Overlap peer folder → ⊥) (old : History) where
  abbrev Rule : History → List Change → Change → Type 0
  Rule = PullRule folder peer other

  -- ---- one write

  -- a write sets the ref to the head that the peer has; where it is of a bug, the identities were tracked before
  record IsSet (earlier : List Change) (change : Change) (remote : RemoteName) (kind : EntityWord) (id : Id) : Type 0 where
    pub head : Name
    pub now : seen_at folder remote kind id (written (files_of (earlier ++ old)) change) ≡ Head head
    pub is_peers : head_at (files_of (earlier ++ old)) peer (local_side kind) id ≡ Head head
    pub people : kind ≡ word.Bug → ArePeopleTracked folder peer remote old (earlier ++ old)

  -- or leaves it
  abbrev IsMoved : List Change → Change → RemoteName → EntityWord → Id → Type 0
  IsMoved earlier change remote kind id =
      (seen_at folder remote kind id (written (files_of (earlier ++ old)) change) ≡ seen_at folder remote kind id (files_of (earlier ++ old)))
      ⊎ IsSet earlier change remote kind id

  module _ (earlier : List Change) (change : Change) (write : IsTrackingHeadWrite folder peer other old earlier change) (remote : RemoteName) (kind : EntityWord) (id : Id) (is_id : IsId id) where
    abbrev files : Files
    files = files_of (earlier ++ old)

    here : write.set.word ≡ kind → other ≡ remote → IsMoved earlier change remote kind id
    here same_word same_remote =
        let set = write.set in
        let at : head_at files peer (local_side kind) set.id ≡ Head set.head = subst (λ (w : EntityWord). head_at files peer (local_side w) set.id ≡ Head set.head) same_word set.is_peers in
        let is : seen_at folder remote kind id (written files change) ≡ seen_at folder remote kind id (written files (ref_write folder (ref_place (tracking_side remote kind) set.id) set.head)) =
        ap (λ (c : Change). seen_at folder remote kind id (written files c)) set.write
        ∙ ap (λ (w : EntityWord). seen_at folder remote kind id (written files (ref_write folder (ref_place (tracking_side other w) set.id) set.head))) same_word
        ∙ ap (λ (r : RemoteName). seen_at folder remote kind id (written files (ref_write folder (ref_place (tracking_side r kind) set.id) set.head))) same_remote in
        elim (head_at-ref_write files folder (tracking_side remote kind) set.id id set.head set.is_id is_id (head_is_name files peer (ref_place (local_side kind) set.id) set.head at)) [
          | inl stays ↦ inl (is ∙ stays)
          | inr now ↦ inr (record {
            head = set.head;
            now = is ∙ now.1;
            is_peers = subst (λ (one : Id). head_at files peer (local_side kind) one ≡ Head set.head) now.0 at;
            people = λ bug. subst (λ (r : RemoteName). ArePeopleTracked folder peer r old (earlier ++ old)) same_remote (write.people (same_word ∙ bug));
          })
        ]

    set_moves : IsMoved earlier change remote kind id
    set_moves = elim (same_side other remote write.set.word kind) [
      | inl same ↦ here same.0 same.1
      | inr differ ↦ inl (ap (λ (c : Change). seen_at folder remote kind id (written files c)) write.set.write
          ∙ head_at-other_side files folder (tracking_side other write.set.word) (tracking_side remote kind) write.set.id id write.set.head differ)
    ]

  moves : (earlier : List Change) (change : Change) → Rule old earlier change → (remote : RemoteName) (kind : EntityWord) (id : Id) → IsId id → IsMoved earlier change remote kind id
  moves earlier change (inl (inl puts)) remote kind id is_id =
      inl (ap (λ (c : Change). seen_at folder remote kind id (written (files_of (earlier ++ old)) c)) puts.1.write ∙ head_at-object_write (files_of (earlier ++ old)) folder puts.1.text (tracking_side remote kind) id)
  moves earlier change (inl (inr write)) remote kind id is_id = set_moves earlier change write remote kind id is_id
  moves earlier change (inr merged) remote kind id is_id = inl (kind_leaves folder (files_of (earlier ++ old)) change merged remote kind id)

  -- ---- all writes

  module _ (new : History) (wrote : WroteBy Rule old new) where
    -- the peer's files stay
    pub untouched : (moment : History) → IsMoment old new moment → IsUntouched peer (files_of old) (files_of moment)
    untouched moment at = (AllMoments-from_WroteBy Rule (IsUntouched peer (files_of old)) old new step (λ rest plain. refl) wrote).each moment at
      where
        placed : (earlier : List Change) (change : Change) → Rule old earlier change → IsAtPlace folder change
        placed earlier change (inl fetched) = fetch-place folder peer other old earlier change fetched
        placed earlier change (inr merged) = write-place folder (files_of (earlier ++ old)) change merged

        step : (earlier : List Change) (change : Change) → IsUntouched peer (files_of old) (files_of (earlier ++ old)) → Rule old earlier change
            → IsUntouched peer (files_of old) (written (files_of (earlier ++ old)) change)
        step earlier change so_far may = λ rest plain. stay-apart peer folder away (files_of (earlier ++ old)) change (placed earlier change may) rest plain ∙ so_far rest plain

    -- so its refs and objects do
    peer_heads : (moment : History) → IsMoment old new moment → (kind : EntityWord) (id : Id) → head_at (files_of moment) peer (local_side kind) id ≡ head_at (files_of old) peer (local_side kind) id
    peer_heads moment at kind id = same_heads peer (files_of old) (files_of moment) (untouched moment at) (local_side kind) id

    peer_objects : (moment : History) → IsMoment old new moment → objects_after moment peer ≡ objects_after old peer
    peer_objects moment at = same_objects peer (files_of old) (files_of moment) (untouched moment at)

    -- no object of the folder is lost from a moment on
    grew : (moment : History) → IsMoment old new moment → OnlyGrew (objects_after moment folder) (objects_after new folder)
    grew moment at =
        let all : Wrote (AddsAlone folder) old new = WroteBy-wider Rule (at_moment (AddsAlone folder)) old new adds wrote in
        let since : Wrote (AddsAlone folder) moment new = WroteBy-after (at_moment (AddsAlone folder)) old new moment (at_moment-from_later (AddsAlone folder)) all at in
        (AllMoments-from_Wrote (AddsAlone folder) (λ (files : Files). OnlyGrew (objects_after moment folder) (objects_in files folder))
        (λ files change so_far more. OnlyGrew-then (objects_after moment folder) (objects_in files folder) (objects_in (written files change) folder) so_far more)
        moment new (OnlyGrew-none (objects_after moment folder)) since).each new (last_moment (at_moment (AddsAlone folder)) moment new since)
      where
        adds : (earlier : List Change) (change : Change) → Rule old earlier change → AddsAlone folder (files_of (earlier ++ old)) change
        adds earlier change (inl fetched) = (fetch-loses_nothing folder peer other old earlier change fetched).objects
        adds earlier change (inr merged) = write-grew folder (files_of (earlier ++ old)) change merged

    module _ (sound : (moment : History) → IsMoment old new moment → IsSound peer (files_of moment) × AreWhole (objects_after moment folder))
        (alike : HaveOneText (objects_after new peer) (objects_after new folder)) where
      -- at a moment the two have no two texts under one name
      alike_at : (moment : History) → IsMoment old new moment → HaveOneText (objects_after moment peer) (objects_after moment folder)
      alike_at moment at name text another there here =
          let same = peer_objects moment at ∙ sym (peer_objects new (last_moment Rule old new wrote)) in
          alike name text another (ap (λ (objects : Objects). text_at objects name) (sym same) ∙ there) (text_stays (objects_after moment folder) (objects_after new folder) (grew moment at) name another here)

      -- so nothing kept an identity from being copied, if its trees are flat
      no_cause : HasFlatEntities peer (files_of old) → (now : History) → IsMoment old new now → (person : Id) (top : Name) → IsId person
          → head_at (files_of now) peer side.Identities person ≡ Head top → HadCause folder peer old now top → ⊥
      no_cause flat now at person top is_person reads had =
          let moment = had.moment in
          let at_it : IsMoment old new moment = IsMoment-of_first old now new moment had.is_moment (record { later = at.later; done = []; before = refl; after = at.after }) in
          let was : head_at (files_of old) peer side.Identities person ≡ Head top = sym (peer_heads now at word.Identity person) ∙ reads in
          sound_none peer (files_of moment) (sound moment at_it).0 person is_person true (objects_after moment folder) (sound moment at_it).1 (alike_at moment at_it) word.Identity top
          (peer_heads moment at_it word.Identity person ∙ was) (subst (λ (objects : Objects). HasFlatTrees objects top) (sym (peer_objects moment at_it)) (flat word.Identity person top is_person was))
          (fault_of had.why) had.cause

      -- the folder has last seen each identity of the peer as the peer had it
      abbrev pub ArePeopleSeen : RemoteName → Files → Type 0
      ArePeopleSeen remote files =
          (person : Id) (top : Name) → IsId person → head_at (files_of old) peer side.Identities person ≡ Head top → seen_at folder remote word.Identity person files ≡ Head top

      -- a ref was set to the head that the peer had
      pub record WasSet (remote : RemoteName) (kind : EntityWord) (id : Id) (files : Files) : Type 0 where
        pub head : Name
        pub now : seen_at folder remote kind id files ≡ Head head
        pub was : head_at (files_of old) peer (local_side kind) id ≡ Head head
        pub people : HasFlatEntities peer (files_of old) → kind ≡ word.Bug → ArePeopleSeen remote files

      abbrev pub IsKept : RemoteName → EntityWord → Id → Files → Type 0
      IsKept remote kind id files = (seen_at folder remote kind id files ≡ seen_at folder remote kind id (files_of old)) ⊎ WasSet remote kind id files

      module _ (earlier : List Change) (change : Change) (at : IsMoment old new (earlier ++ old)) (may : Rule old earlier change) where
        abbrev before : Files
        before = files_of (earlier ++ old)

        abbrev after : Files
        after = written before change

        -- people that were seen are
        seen_still : (remote : RemoteName) → ArePeopleSeen remote before → ArePeopleSeen remote after
        seen_still remote so_far person top is_person was = elim (moves earlier change may remote word.Identity person is_person) [
          | inl stays ↦ stays ∙ so_far person top is_person was
          | inr set ↦ set.now ∙ sym set.is_peers ∙ peer_heads (earlier ++ old) at word.Identity person ∙ was
        ]

        -- and where a bug is set, they were
        seen_first : HasFlatEntities peer (files_of old) → (remote : RemoteName) → ArePeopleTracked folder peer remote old (earlier ++ old) → ArePeopleSeen remote before
        seen_first flat remote tracked person top is_person was =
            let reads : head_at before peer side.Identities person ≡ Head top = peer_heads (earlier ++ old) at word.Identity person ∙ was in
            elim (tracked person top is_person reads) [
              | inl seen ↦ seen
              | inr had ↦ absurd (no_cause flat (earlier ++ old) at person top is_person reads had)
            ]

        kept_on : (remote : RemoteName) (kind : EntityWord) (id : Id) → IsId id → IsKept remote kind id before → IsKept remote kind id after
        kept_on remote kind id is_id kept = by (moves earlier change may remote kind id is_id) kept
          where
            by : IsMoved earlier change remote kind id → IsKept remote kind id before → IsKept remote kind id after
            by (inl stays) (inl same) = inl (stays ∙ same)
            by (inl stays) (inr set) = inr (record {
              head = set.head;
              now = stays ∙ set.now;
              was = set.was;
              people = λ flat bug. seen_still remote (set.people flat bug);
            })
            by (inr set) so_far = inr (record {
              head = set.head;
              now = set.now;
              was = sym (peer_heads (earlier ++ old) at kind id) ∙ set.is_peers;
              people = λ flat bug. seen_still remote (seen_first flat remote (set.people bug));
            })

      -- after the first writes
      kept_by : (later writes : List Change) → new ≡ later ++ (writes ++ old) → EachWrite Rule old writes → (remote : RemoteName) (kind : EntityWord) (id : Id) → IsId id
          → IsKept remote kind id (files_of (writes ++ old))
      kept_by later [] is all remote kind id is_id = inl refl
      kept_by later (change ∷ writes) is all remote kind id is_id =
          let then : new ≡ (later ++ (change ∷ [])) ++ (writes ++ old) = is ∙ sym (append_assoc later (change ∷ []) (writes ++ old)) in
          kept_on writes change (record { later = later ++ (change ∷ []); done = writes; before = refl; after = then }) all.1 remote kind id is_id
          (kept_by (later ++ (change ∷ [])) writes then all.0 remote kind id is_id)

      -- and in the end
      pub pull_keeps : (remote : RemoteName) (kind : EntityWord) (id : Id) → IsId id → IsKept remote kind id (files_of new)
      pull_keeps remote kind id is_id =
          subst (λ (h : History). IsKept remote kind id (files_of h)) (sym wrote.grew) (kept_by [] wrote.writes wrote.grew wrote.each remote kind id is_id)
