-- A pull brings to a bug what the folder had last seen of it and what the peer has, and a push what the own folder has, and no more.
use Rattle.std.proofs.Common.{◌≡◌, ◌⊎◌, ◌<◌, ◌^◌, inl, inr, refl, sym, ◌∙◌, subst, ℕ, List, Result, Ok, Err}
use Rattle.gb_text.specs.Digits.{IsId}
use Rattle.gb_text.specs.Overlap.{Overlap}
use Rattle.gb_text.specs.declared.id.Id.{Id}
use Rattle.gb_store.specs.Files.{History, files_of}
use Rattle.gb_store.specs.Moments.{IsMoment, Wrote, WroteBy}
use Rattle.gb_store.proofs.MomentLemmas.{IsMoment-cases, Wrote-none}
use Rattle.object_store.specs.Held.{objects_in}
use Rattle.object_store.proofs.GrowthLemmas.{text_stays}
use Rattle.ref_store.specs.Refs.{Head}
use Rattle.bug_ops.specs.declared.op.BugOp.{BugOp}
use Rattle.dag_entity.specs.declared.entity.Placed.{Placed}
use Rattle.remote_name.specs.declared.remote.RemoteName.{RemoteName}
use Rattle.repo_state.specs.Sides.{head_at}
use Rattle.repo_state.specs.Sound.{IsSound}
use Rattle.repo_state.specs.declared.side.Side.TheVariants as side
use Rattle.repo_state.specs.declared.stop.ReadStop.{ReadStop}
use Rattle.repo_writes.specs.Kinds.{IsWrite}
use Rattle.repo_writes.proofs.SoundLemmas.{keeps_sound}
use Rattle.sync_steps.specs.Fetching.{FetchAnswers}
use Rattle.sync_steps.specs.Places.{local_side, tracking_side}
use Rattle.sync_steps.specs.Pushing.{PushAnswers}
use Rattle.sync_steps.specs.declared.line.EntityWord.{EntityWord}
use Rattle.sync_steps.specs.declared.line.EntityWord.TheVariants as word
use Rattle.sync_steps.specs.declared.line.Line.{Line}
use Rattle.sync_writes.specs.Kinds.{FetchWrites}
use Rattle.sync_writes.proofs.FetchKeptLemmas.{fetch_keeps_parts}
use Rattle.sync_writes.proofs.FetchKindLemmas.{fetch_writes}
use Rattle.sync_writes.proofs.PushKindLemmas.{push_writes}
use Rattle.merge_steps.specs.Pulling.{MergedThen, PullAnswers}
use Rattle.merge_steps.specs.Turns.{MergeAnswers}
use Rattle.merge_steps.specs.declared.line.MergeLine.{MergeLine}
use Rattle.merge_steps.specs.declared.line.Pulled.{Pulled}
use Rattle.merge_steps.specs.declared.stop.MergeStop.{MergeStop}
use Rattle.merge_steps.proofs.MergeWriteLemmas.{merge_wrote, not_begun_same}
use Rattle.ref_moments.specs.Leads.{LeadsOn}
use Rattle.ref_moments.specs.Once.{StaysSame}
use Rattle.ref_moments.proofs.FetchLemmas.{fetch_once}
use Rattle.ref_moments.proofs.LeadLemmas.{fetch_leads_on, kinds_lead_on, push_leads_on}
use Rattle.ref_moments.proofs.MomentLemmas.{set_end, set_old_or_new}
use Rattle.ref_moments.proofs.OnceLemmas.{last_moment, stayed, stays_none}
use Rattle.ref_moments.proofs.PushLemmas.{push_once}
use Rattle.full_exchanges.specs.Having.{ACommit, Has}
use Rattle.full_exchanges.proofs.HasLemmas.{has_over}
use Rattle.full_exchanges.proofs.OneTextLemmas.{HaveOneText}
use Rattle.operation_origins.proofs.MergeLemmas.{merge_brings}
use Rattle.operation_origins.proofs.StopLemmas.{grew_before, had_so, wrote_first}
use Rattle.operation_origins.proofs.TurnLemmas.{HadOrSeen}

-- the ref of a bug on the own side is no tracking ref
no_tracking : (remote : RemoteName) (kind : EntityWord) → side.Bugs ≡ tracking_side remote kind → ⊥
no_tracking remote word.Identity e = cc e
no_tracking remote word.Bug e = cc e

-- a tracking ref of bugs is that of a bug
tracks_bug : (remote : RemoteName) (kind : EntityWord) → side.RemoteBugs remote ≡ tracking_side remote kind → word.Bug ≡ kind
tracks_bug remote word.Identity e = absurd (cc e)
tracks_bug remote word.Bug e = refl

-- a local ref of bugs too
is_local_bug : (kind : EntityWord) → side.Bugs ≡ local_side kind → word.Bug ≡ kind
is_local_bug word.Identity e = absurd (cc e)
is_local_bug word.Bug e = refl

module _ (own peer : List ℕ) (apart : Overlap own peer → ⊥) (old : History) (id : Id) (is_id : IsId id) (placed : Placed BugOp) where
  -- the own folder has the commit
  abbrev Own : History → Type 0
  Own late = Has (files_of late) own side.Bugs id (ACommit placed)

  -- the peer had it
  abbrev There : Type 0
  There = Has (files_of old) peer side.Bugs id (ACommit placed)

  module _ (remote : RemoteName) (sound : IsSound own (files_of old)) where
    -- what the folder has of the bug where a pull stopped, it had, or had last seen, or the peer had
    abbrev pub HadOrFetched : Type 0
    HadOrFetched = HadOrSeen own remote old id placed ⊎ Has (files_of old) peer side.Bugs id (ACommit placed)

    module _ (mid : History) (result : Result (List Line) ReadStop) (answers : FetchAnswers own peer remote old mid result) where
      -- what the fetch wrote
      fetch_wrote : WroteBy (FetchWrites own peer remote) old mid
      fetch_wrote = fetch_writes own peer remote apart old mid result answers

      fetch_leads : LeadsOn own old mid
      fetch_leads = fetch_leads_on own peer remote old mid fetch_wrote

      -- a fetch leaves the local ref
      pub local_stays : StaysSame own side.Bugs id old mid
      local_stays = elim (fetch_once own peer remote old side.Bugs id is_id mid result answers) [ inl stays ↦ stays | inr fetched ↦ absurd (no_tracking remote fetched.word fetched.is_side) ]

      -- what the folder has of its own during a fetch, it had
      fetch_had : (new : History) → IsMoment old mid new → Own new → Own old
      fetch_had new at has = had_so own (files_of old) (files_of new) (grew_before own old mid new fetch_leads at) side.Bugs id placed sound is_id (local_stays.each new at) has

      abbrev at_end : IsMoment old mid mid
      at_end = last_moment old mid (wrote_first old mid fetch_wrote)

      -- it is sound when the fetch ends
      sound_mid : IsSound own (files_of mid)
      sound_mid = (keeps_sound own old mid (fetch_keeps_parts own peer remote old mid fetch_wrote) sound).each mid at_end

      -- what it had last seen, or what the peer had
      seen_had : IsSound peer (files_of old) → HaveOneText (objects_in (files_of mid) own) (objects_in (files_of old) peer) → Has (files_of mid) own (side.RemoteBugs remote) id (ACommit placed) → HadOrFetched
      seen_had also alike has = elim (fetch_once own peer remote old (side.RemoteBugs remote) id is_id mid result answers) [
        | inl stays ↦ inl (inr (had_so own (files_of old) (files_of mid) (grew_before own old mid mid fetch_leads at_end) (side.RemoteBugs remote) id placed sound is_id (stayed own (side.RemoteBugs remote) id old mid stays) has))
        | inr fetched ↦
            let set = set_end own (side.RemoteBugs remote) id fetched.head old mid fetched.once in
            let there : head_at (files_of old) peer side.Bugs id ≡ Head fetched.head = subst (λ (kind : EntityWord). head_at (files_of old) peer (local_side kind) id ≡ Head fetched.head) (sym (tracks_bug remote fetched.word fetched.is_side)) fetched.is_peers in
            inr (has_over (files_of mid) (files_of old) own peer (side.RemoteBugs remote) side.Bugs id (ACommit placed) sound_mid also alike is_id (there ∙ sym set) has)
      ]

    module _ (also : IsSound peer (files_of old)) (now : ℕ) (moment : now < 2 ^ 64) (new : History) (alike : HaveOneText (objects_in (files_of new) own) (objects_in (files_of old) peer)) where
      -- a fetch, and then a merge
      both_brought : (end : History) (lines : List Line) (merged : Result (List MergeLine) MergeStop) → MergedThen own peer remote now old end lines (λ mid late. MergeAnswers own remote now mid late merged)
          → IsMoment old end new → Own new → HadOrFetched
      both_brought end lines merged is at has = elim (IsMoment-cases old mid end new (wrote_first old mid (fetch_wrote mid (Ok lines) is.first)) (wrote_first mid end then_wrote) at) [
        | inl early ↦ inl (inl (fetch_had mid (Ok lines) is.first new early has))
        | inr late ↦ elim (merge_brings own remote now moment mid (sound_mid mid (Ok lines) is.first) end merged is.then new late id is_id placed has) [
          | inl mine ↦ inl (inl (fetch_had mid (Ok lines) is.first mid (at_end mid (Ok lines) is.first) mine))
          | inr seen ↦ seen_had mid (Ok lines) is.first also (alike_mid late) seen
        ]
      ]
        where
          mid : History
          mid = is.mid

          then_wrote : Wrote (IsWrite own) mid end
          then_wrote = merge_wrote own remote now mid end merged moment is.then

          alike_mid : IsMoment mid end new → HaveOneText (objects_in (files_of mid) own) (objects_in (files_of old) peer)
          alike_mid late name text other here there =
              alike name text other
              (text_stays (objects_in (files_of mid) own) (objects_in (files_of new) own) (grew_before own mid end new (kinds_lead_on own mid end then_wrote) late) name text here) there

      -- whatever a pull answers
      pub pull_brings : (end : History) (result : Result Pulled MergeStop) → PullAnswers own peer remote now old end result → IsMoment old end new → Own new → HadOrFetched
      pull_brings end (Ok pulled) is at has = both_brought end pulled.fetched (Ok pulled.merged) is at has
      pull_brings end (Err why) (inl none) at has =
          let same = not_begun_same own remote now why old end none in
          inl (inl (had_so own (files_of old) (files_of new) (grew_before own old end new (kinds_lead_on own old end (Wrote-none (IsWrite own) old end same)) at) side.Bugs id placed sound is_id
          ((stays_none own side.Bugs id old end same).each new at) has))
      pull_brings end (Err why) (inr (inl is)) at has = inl (inl (fetch_had end (Err is.stop) is.ended new at has))
      pull_brings end (Err why) (inr (inr (fetched, is))) at has = both_brought end fetched (Err why) is at has

  -- what the peer has where a push stopped, it had, or the own folder had
  pub push_brings : IsSound peer (files_of old) → (sound : IsSound own (files_of old)) → (end : History) (result : Result (List Line) ReadStop) → PushAnswers own peer old end result → (new : History) → IsMoment old end new
      → IsSound peer (files_of new) → HaveOneText (objects_in (files_of new) peer) (objects_in (files_of old) own) → Has (files_of new) peer side.Bugs id (ACommit placed)
      → There ⊎ Own old
  push_brings also sound end result answers new at then alike has = elim (push_once own peer old side.Bugs id is_id end result answers) [
    | inl stays ↦ inl (stay (stays.each new at))
    | inr pushed ↦ elim ((set_old_or_new peer side.Bugs id pushed.head old end pushed.once).each new at) [
      | inl stays ↦ inl (stay stays)
      | inr set ↦
          let there = set ∙ set_end peer side.Bugs id pushed.head old end pushed.once in
          let mine : head_at (files_of old) own side.Bugs id ≡ Head pushed.head = subst (λ (kind : EntityWord). head_at (files_of old) own (local_side kind) id ≡ Head pushed.head) (sym (is_local_bug pushed.word pushed.is_side)) pushed.is_own in
          inr (has_over (files_of new) (files_of old) peer own side.Bugs side.Bugs id (ACommit placed) then sound alike is_id (mine ∙ sym there) has)
    ]
  ]
    where
      stay : head_at (files_of new) peer side.Bugs id ≡ head_at (files_of old) peer side.Bugs id → There
      stay same = had_so peer (files_of old) (files_of new) (grew_before peer old end new (push_leads_on own peer old end (push_writes own peer apart old end result answers)) at) side.Bugs id placed also is_id same has
