-- What a pull that refuses no bug leaves.
use Rattle.std.proofs.Common.{◌≡◌, ◌⊎◌, inl, inr, ℕ, List, [], ◌∷◌, ◌++◌, Ok, refl, sym, ◌∙◌, ap, subst, arith}
use Rattle.gb_text.specs.Digits.{IsId}
use Rattle.gb_text.specs.Overlap.{Overlap}
use Rattle.gb_text.specs.declared.id.Id.{Id}
use Rattle.gb_text.proofs.PathLemmas.{Overlap-mutual}
use Rattle.gb_store.specs.Files.{History, files_of}
use Rattle.gb_store.specs.Moments.{IsMoment, Wrote, WroteBy, at_moment}
use Rattle.gb_store.specs.declared.store.Change.{Change}
use Rattle.gb_store.proofs.MomentLemmas.{AllMoments-from_WroteBy}
use Rattle.object_store.specs.Growth.{OnlyGrew}
use Rattle.object_store.specs.Held.{Objects, objects_after, objects_in, text_at}
use Rattle.object_store.proofs.GrowthLemmas.{OnlyGrew-then, text_stays}
use Rattle.ref_store.specs.Refs.{Ref, Absent, Bad, Head}
use Rattle.repo_state.specs.Sides.{head_at}
use Rattle.repo_state.specs.Sound.{IsSound, IsSoundBug, IsSoundTracking}
use Rattle.repo_state.specs.Sound as parts
use Rattle.repo_state.specs.declared.side.Side.{Side}
use Rattle.repo_state.specs.declared.side.Side.TheVariants as side
use Rattle.repo_writes.specs.Kinds.{IsWrite}
use Rattle.repo_writes.proofs.KeptLemmas.{loses_nothing}
use Rattle.repo_writes.proofs.SoundLemmas.{keeps_parts, keeps_sound, write-place}
use Rattle.repo_writes.proofs.StayLemmas.{IsAtPlace, stay-apart}
use Rattle.merge_steps.proofs.MergeWriteLemmas.{merge_wrote}
use Rattle.sync_writes.specs.Kinds.{FetchWrites}
use Rattle.sync_writes.proofs.FetchKeptLemmas.{fetch_keeps_parts, fetch_loses_nothing}
use Rattle.sync_writes.proofs.FetchKindLemmas.{fetch_writes}
use Rattle.sync_writes.proofs.PlaceLemmas.{fetch-place}
use Rattle.full_exchanges.specs.Having.{Has, HaveOneTextEach, Piece, TheBug}
use Rattle.full_exchanges.specs.Leaving.{IsUntouched, Joins}
use Rattle.full_exchanges.specs.Pulls.{Brings, Pull, WasPulled}
use Rattle.full_exchanges.proofs.FetchLemmas.{fetch_brings, fetch_keeps, fetch_passes}
use Rattle.full_exchanges.proofs.HasLemmas.{has_over, none_had, same_objects}
use Rattle.full_exchanges.proofs.MergeLemmas.{has_joined, joined_has, merge_keeps, merge_passes}
use Rattle.full_exchanges.proofs.OneTextLemmas.{HaveOneText, one_text_grew}

-- the last moment of a call
last_moment : (Rule : History → List Change → Change → Type 0) (old new : History) → WroteBy Rule old new → IsMoment old new new
last_moment Rule old new wrote = record { later = []; done = wrote.writes; before = wrote.grew; after = refl }

-- writes at places of another folder leave each file of a folder
stays_untouched : (Rule : History → List Change → Change → Type 0) (folder other : List ℕ) → (Overlap folder other → ⊥)
    → ((entry : History) (earlier : List Change) (change : Change) → Rule entry earlier change → IsAtPlace other change) → (old new : History) → WroteBy Rule old new
    → IsUntouched folder (files_of old) (files_of new)
stays_untouched Rule folder other apart places old new wrote =
    (AllMoments-from_WroteBy Rule (IsUntouched folder (files_of old)) old new
    (λ earlier change so_far may. λ rest plain. stay-apart folder other apart (files_of (earlier ++ old)) change (places old earlier change may) rest plain ∙ so_far rest plain)
    (λ rest plain. refl) wrote).each new (last_moment Rule old new wrote)

module _ (pull : Pull) (old new : History) (apart : Overlap pull.own pull.peer → ⊥) (was : WasPulled pull old new) where
  -- where its fetch ended
  abbrev mid : History
  mid = was.answers.mid

  fetch_wrote : WroteBy (FetchWrites pull.own pull.peer pull.remote) old mid
  fetch_wrote = fetch_writes pull.own pull.peer pull.remote apart old mid (Ok was.pulled.fetched) was.answers.first

  then_wrote : Wrote (IsWrite pull.own) mid new
  then_wrote = merge_wrote pull.own pull.remote pull.now mid new (Ok was.pulled.merged) was.in_time was.answers.then

  grew_first : OnlyGrew (objects_after old pull.own) (objects_after mid pull.own)
  grew_first =
      ((fetch_loses_nothing pull.own pull.peer pull.remote old mid fetch_wrote).each mid (last_moment (FetchWrites pull.own pull.peer pull.remote) old mid fetch_wrote)).objects

  grew_then : OnlyGrew (objects_after mid pull.own) (objects_after new pull.own)
  grew_then = ((loses_nothing pull.own mid new then_wrote).each new (last_moment (at_moment (IsWrite pull.own)) mid new then_wrote)).objects

  -- ---- other folders

  -- a folder that does not overlap the own one is untouched by the fetch and by the merge
  untouched_first : (folder : List ℕ) → (Overlap folder pull.own → ⊥) → IsUntouched folder (files_of old) (files_of mid)
  untouched_first folder other =
      stays_untouched (FetchWrites pull.own pull.peer pull.remote) folder pull.own other (fetch-place pull.own pull.peer pull.remote) old mid fetch_wrote

  untouched_then : (folder : List ℕ) → (Overlap folder pull.own → ⊥) → IsUntouched folder (files_of mid) (files_of new)
  untouched_then folder other =
      stays_untouched (at_moment (IsWrite pull.own)) folder pull.own other (λ entry earlier change may. write-place pull.own (files_of (earlier ++ entry)) change may) mid new then_wrote

  pub pull_leaves : (folder : List ℕ) → (Overlap folder pull.own → ⊥) → IsUntouched folder (files_of old) (files_of new)
  pull_leaves folder other = λ rest plain. untouched_then folder other rest plain ∙ untouched_first folder other rest plain

  -- the own one only gets objects
  pub pull_grew : OnlyGrew (objects_after old pull.own) (objects_after new pull.own)
  pull_grew = OnlyGrew-then (objects_after old pull.own) (objects_after mid pull.own) (objects_after new pull.own) grew_first grew_then

  module _ (sound : IsSound pull.own (files_of old)) where
    sound_mid : IsSound pull.own (files_of mid)
    sound_mid = (keeps_sound pull.own old mid (fetch_keeps_parts pull.own pull.peer pull.remote old mid fetch_wrote) sound).each mid (last_moment (FetchWrites pull.own pull.peer pull.remote) old mid fetch_wrote)

    -- it stays sound
    pub pull_sound : IsSound pull.own (files_of new)
    pull_sound = (keeps_sound pull.own mid new (keeps_parts pull.own mid new then_wrote) sound_mid).each new (last_moment (at_moment (IsWrite pull.own)) mid new then_wrote)

    -- refs that read the same have the same
    on_side : (of : Side) (id : Id) (piece : Piece) → IsId id → head_at (files_of mid) pull.own of id ≡ head_at (files_of old) pull.own of id
        → (Has (files_of old) pull.own of id piece → Has (files_of mid) pull.own of id piece) × (Has (files_of mid) pull.own of id piece → Has (files_of old) pull.own of id piece)
    on_side of id piece is same = (
      has_over (files_of old) (files_of mid) pull.own pull.own of of id piece sound sound_mid alike is same,
      has_over (files_of mid) (files_of old) pull.own pull.own of of id piece sound_mid sound back is (sym same),
    )
      where
        alike : HaveOneText (objects_after old pull.own) (objects_after mid pull.own)
        alike = one_text_grew (objects_after old pull.own) (objects_after mid pull.own) grew_first

        back : HaveOneText (objects_after mid pull.own) (objects_after old pull.own)
        back name text other one two = sym (alike name other text two one)

    later_side : (of : Side) (id : Id) (piece : Piece) → IsId id → head_at (files_of new) pull.own of id ≡ head_at (files_of mid) pull.own of id
        → (Has (files_of mid) pull.own of id piece → Has (files_of new) pull.own of id piece) × (Has (files_of new) pull.own of id piece → Has (files_of mid) pull.own of id piece)
    later_side of id piece is same = (
      has_over (files_of mid) (files_of new) pull.own pull.own of of id piece sound_mid pull_sound alike is same,
      has_over (files_of new) (files_of mid) pull.own pull.own of of id piece pull_sound sound_mid back is (sym same),
    )
      where
        alike : HaveOneText (objects_after mid pull.own) (objects_after new pull.own)
        alike = one_text_grew (objects_after mid pull.own) (objects_after new pull.own) grew_then

        back : HaveOneText (objects_after new pull.own) (objects_after mid pull.own)
        back name text other one two = sym (alike name other text two one)

    -- the local bugs as the fetch left them
    local_first : (id : Id) (piece : Piece) → IsId id → (Has (files_of old) pull.own side.Bugs id piece → Has (files_of mid) pull.own side.Bugs id piece)
        × (Has (files_of mid) pull.own side.Bugs id piece → Has (files_of old) pull.own side.Bugs id piece)
    local_first id piece is =
        on_side side.Bugs id piece is (fetch_keeps pull.own pull.peer pull.remote old mid was.pulled.fetched was.answers.first side.Bugs id (λ e. cc e) (λ e. cc e))

    -- and as the merge leaves them: what they had, and what was last seen at the remote
    local_then : (id : Id) (piece : Piece) → IsId id
        → (Has (files_of new) pull.own side.Bugs id piece → Has (files_of mid) pull.own side.Bugs id piece ⊎ Has (files_of mid) pull.own (side.RemoteBugs pull.remote) id piece)
        × (Has (files_of mid) pull.own side.Bugs id piece ⊎ Has (files_of mid) pull.own (side.RemoteBugs pull.remote) id piece → Has (files_of new) pull.own side.Bugs id piece)
    local_then id piece is = by (head_at (files_of mid) pull.own (side.RemoteBugs pull.remote) id) refl
      where
        by : (ref : Ref) → head_at (files_of mid) pull.own (side.RemoteBugs pull.remote) id ≡ ref
            → (Has (files_of new) pull.own side.Bugs id piece → Has (files_of mid) pull.own side.Bugs id piece ⊎ Has (files_of mid) pull.own (side.RemoteBugs pull.remote) id piece)
            × (Has (files_of mid) pull.own side.Bugs id piece ⊎ Has (files_of mid) pull.own (side.RemoteBugs pull.remote) id piece → Has (files_of new) pull.own side.Bugs id piece)
        by Absent at =
            let passes = later_side side.Bugs id piece is (merge_passes pull.own pull.remote pull.now mid new was.pulled.merged was.answers.then id is at) in (
              λ h. inl (passes.1 h),
              λ h. elim h [
                | inl mine ↦ passes.0 mine
                | inr seen ↦ absurd (none_had (files_of mid) pull.own (side.RemoteBugs pull.remote) id piece at seen)
              ],
            )
        by (Head tracked) at = (
          joined_has pull.own pull.remote pull.now mid new was.pulled.merged was.answers.then was.in_time sound_mid was.refuses_none.merged id tracked is at piece,
          has_joined pull.own pull.remote pull.now mid new was.pulled.merged was.answers.then was.in_time sound_mid was.refuses_none.merged id tracked is at piece,
        )
        by Bad at = absurd (subst (IsSoundTracking (objects_after mid pull.own)) at (sound_mid parts.Tracking pull.remote id is).0)

    module _ (also : IsSound pull.peer (files_of old)) (one_text : HaveOneTextEach (files_of new) (pull.own ∷ pull.peer ∷ [])) where
      -- the peer holds at the end what it held
      peer_same : objects_in (files_of new) pull.peer ≡ objects_in (files_of old) pull.peer
      peer_same = same_objects pull.peer (files_of old) (files_of new) (pull_leaves pull.peer (λ overlap. apart (Overlap-mutual pull.peer pull.own overlap)))

      alike_peer : HaveOneText (objects_after mid pull.own) (objects_after old pull.peer)
      alike_peer name text other here there =
          one_text pull.own pull.peer name text other (0, omega arith, refl) (1, omega arith, refl)
          (text_stays (objects_after mid pull.own) (objects_after new pull.own) grew_then name text here)
          (ap (λ (objects : Objects). text_at objects name) peer_same ∙ there)

      -- what was last seen at the remote, as the fetch left it
      seen_first : (id : Id) (piece : Piece) → IsId id → (Has (files_of mid) pull.own (side.RemoteBugs pull.remote) id piece → Brings (files_of old) pull id piece)
          × (Brings (files_of old) pull id piece → Has (files_of mid) pull.own (side.RemoteBugs pull.remote) id piece)
      seen_first id piece is = by (head_at (files_of old) pull.peer side.Bugs id) refl
        where
          by : (ref : Ref) → head_at (files_of old) pull.peer side.Bugs id ≡ ref → (Has (files_of mid) pull.own (side.RemoteBugs pull.remote) id piece → Brings (files_of old) pull id piece)
              × (Brings (files_of old) pull id piece → Has (files_of mid) pull.own (side.RemoteBugs pull.remote) id piece)
          by Absent at =
              let still = on_side (side.RemoteBugs pull.remote) id piece is (fetch_passes pull.own pull.peer pull.remote old mid was.pulled.fetched was.answers.first id is at) in (
                λ h. inr ((λ there. none_had (files_of old) pull.peer side.Bugs id TheBug at there), still.1 h),
                λ h. elim h [
                  | inl there ↦ absurd (none_had (files_of old) pull.peer side.Bugs id piece at there)
                  | inr seen ↦ still.0 seen.1
                ],
              )
          by (Head top) at =
              let set = fetch_brings pull.own pull.peer pull.remote old mid was.pulled.fetched was.answers.first was.refuses_none.fetched id top is at in (
                λ h. inl (has_over (files_of mid) (files_of old) pull.own pull.peer (side.RemoteBugs pull.remote) side.Bugs id piece sound_mid also alike_peer is (at ∙ sym set) h),
                λ h. elim h [
                  | inl there ↦
                      has_over (files_of old) (files_of mid) pull.peer pull.own side.Bugs (side.RemoteBugs pull.remote) id piece also sound_mid
                      (λ name text other one two. sym (alike_peer name other text two one)) is (set ∙ sym at) there
                  | inr seen ↦ absurd (seen.0 (record { head = top; is_head = at; is = tt }))
                ],
              )
          by Bad at = absurd (subst (IsSoundBug (objects_after old pull.peer) id) at (also parts.Bugs id is))

      pub pull_joins : Joins pull (files_of old) (files_of new)
      pull_joins = record {
        own = λ id piece is.
            let first = local_first id piece is in
            let then = local_then id piece is in
            let seen = seen_first id piece is in (
              λ h. elim (then.0 h) [ inl mine ↦ inl (first.1 mine) | inr there ↦ inr (seen.0 there) ],
              λ h. elim h [ inl mine ↦ then.1 (inl (first.0 mine)) | inr there ↦ then.1 (inr (seen.1 there)) ],
            );
        seen = λ id piece is.
            let still = later_side (side.RemoteBugs pull.remote) id piece is (merge_keeps pull.own pull.remote pull.now mid new was.pulled.merged was.answers.then pull.remote id) in
            let seen = seen_first id piece is in
            ((λ h. seen.0 (still.1 h)), (λ h. still.0 (seen.1 h)));
        elsewhere = λ remote id piece differ is.
            let still = later_side (side.RemoteBugs remote) id piece is (merge_keeps pull.own pull.remote pull.now mid new was.pulled.merged was.answers.then remote id) in
            let before = on_side (side.RemoteBugs remote) id piece is
            (fetch_keeps pull.own pull.peer pull.remote old mid was.pulled.fetched was.answers.first (side.RemoteBugs remote) id (λ e. let same : remote ≡ pull.remote = cc in differ same) (λ e. cc e)) in
            ((λ h. before.1 (still.1 h)), (λ h. still.0 (before.0 h)));
      }
