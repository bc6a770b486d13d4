-- The heads of identities that a fetch, a push, a merge or a pull leaves in a folder were there before.
use Rattle.std.proofs.Common.{◌≡◌, ◌⊎◌, inl, inr, sym, ◌∙◌, subst, ℕ, List, Contains, Result, Ok, Err}
use Rattle.gb_text.specs.Digits.{IsId}
use Rattle.gb_text.specs.declared.id.Id.{Id}
use Rattle.gb_text.specs.declared.id.Name.{Name}
use Rattle.gb_store.specs.Files.{Files, History, files_of}
use Rattle.gb_store.specs.Moments.{IsMoment}
use Rattle.gb_store.proofs.MomentLemmas.{IsMoment-cases}
use Rattle.ref_store.specs.Refs.{Head}
use Rattle.remote_name.specs.declared.remote.RemoteName.{RemoteName}
use Rattle.repo_state.specs.Sides.{head_at}
use Rattle.repo_state.specs.declared.side.Side.{Side}
use Rattle.repo_state.specs.declared.side.Side.TheVariants as side
use Rattle.repo_state.specs.declared.stop.ReadStop.{ReadStop}
use Rattle.sync_steps.specs.Fetching.{FetchAnswers}
use Rattle.sync_steps.specs.Places.{local_side, tracking_side}
use Rattle.sync_steps.specs.Pushing.{PushAnswers}
use Rattle.sync_steps.specs.declared.line.EntityWord.{EntityWord}
use Rattle.sync_steps.specs.declared.line.EntityWord.TheVariants as word
use Rattle.sync_steps.specs.declared.line.Line.{Line}
use Rattle.merge_steps.specs.Pulling.{MergedThen, PullAnswers}
use Rattle.merge_steps.specs.Turns.{MergeAnswers}
use Rattle.merge_steps.specs.declared.line.MergeLine.{MergeLine}
use Rattle.merge_steps.specs.declared.line.Pulled.{Pulled}
use Rattle.merge_steps.specs.declared.stop.MergeStop.{MergeStop}
use Rattle.merge_steps.proofs.MergeWriteLemmas.{not_begun_same}
use Rattle.ref_moments.specs.Once.{IsSetOnce, StaysSame}
use Rattle.ref_moments.specs.Sets.{IsFetched}
use Rattle.ref_moments.proofs.FetchLemmas.{fetch_once}
use Rattle.ref_moments.proofs.MomentLemmas.{set_end, set_old_or_new}
use Rattle.ref_moments.proofs.OnceLemmas.{last_moment, stays_none}
use Rattle.ref_moments.proofs.PushLemmas.{push_once}
use Rattle.identity_runs.specs.Heads.{IsOfPeople, IsThere}
use Rattle.identity_runs.proofs.TakenLemmas.{TakesTracked, merge_takes}

-- what is tracked of identities is local there
tracked_people : (remote : RemoteName) (kind : EntityWord) (of : Side) → IsOfPeople of → of ≡ tracking_side remote kind → IsOfPeople (local_side kind)
tracked_people remote word.Identity of people is = tt
tracked_people remote word.Bug of people is = absurd (subst IsOfPeople is people)

module _ (folders : List (List ℕ)) (old : History) (id : Id) where
  -- the head was there
  abbrev pub Was : Name → Type 0
  Was head = IsThere (files_of old) folders id head

  module _ (folder : List ℕ) (is : Contains folders folder) (of : Side) (people : IsOfPeople of) where
    -- a ref that reads as before
    pub stays_was : (files : Files) (head : Name) → head_at files folder of id ≡ head_at (files_of old) folder of id → head_at files folder of id ≡ Head head → Was head
    stays_was files head same at = record { folder = folder; is = is; of = of; of_people = people; is_head = sym same ∙ at }

    pub same_was : (end new : History) → StaysSame folder of id old end → IsMoment old end new → (head : Name) → head_at (files_of new) folder of id ≡ Head head → Was head
    same_was end new stays at head has = stays_was (files_of new) head (stays.each new at) has

    -- a ref that is set to a head that was there
    pub set_was : (high : Name) (end new : History) → IsSetOnce folder of id high old end → Was high → IsMoment old end new → (head : Name) → head_at (files_of new) folder of id ≡ Head head → Was head
    set_was high end new set was at head has = elim ((set_old_or_new folder of id high old end set).each new at) [
      | inl same ↦ stays_was (files_of new) head same has
      | inr then ↦
          let heads : Head high ≡ Head head = sym (set_end folder of id high old end set) ∙ sym then ∙ has in
          let is_it : high ≡ head = cc in
          subst Was is_it was
    ]

  module _ (is_id : IsId id) where
    -- a merge, in its folder
    pub merge_was : (folder : List ℕ) → Contains folders folder → (remote : RemoteName) (now : ℕ) (end : History) (result : Result (List MergeLine) MergeStop) → MergeAnswers folder remote now old end result
        → (new : History) → IsMoment old end new → (of : Side) → IsOfPeople of → (head : Name) → head_at (files_of new) folder of id ≡ Head head → Was head
    merge_was folder is remote now end result answers new at of people head has = elim (merge_takes folder remote now old of people id is_id end result answers) [
      | inl stays ↦ same_was folder is of people end new stays at head has
      | inr takes ↦
          set_was folder is of people takes.head end new takes.once
          (record { folder = folder; is = is; of = side.RemoteIdentities remote; of_people = tt; is_head = takes.is_tracked }) at head has
    ]

    module _ (own peer : List ℕ) (is_own : Contains folders own) (is_peer : Contains folders peer) where
      -- a push, in the peer
      pub push_was : (end : History) (result : Result (List Line) ReadStop) → PushAnswers own peer old end result → (new : History) → IsMoment old end new → (of : Side) → IsOfPeople of
          → (head : Name) → head_at (files_of new) peer of id ≡ Head head → Was head
      push_was end result answers new at of people head has = elim (push_once own peer old of id is_id end result answers) [
        | inl stays ↦ same_was peer is_peer of people end new stays at head has
        | inr pushed ↦
            set_was peer is_peer of people pushed.head end new pushed.once
            (record { folder = own; is = is_own; of = local_side pushed.word; of_people = subst IsOfPeople pushed.is_side people; is_head = pushed.is_own }) at head has
      ]

      module _ (remote : RemoteName) where
        -- a fetch
        pub fetch_was : (end : History) (result : Result (List Line) ReadStop) → FetchAnswers own peer remote old end result → (new : History) → IsMoment old end new → (of : Side) → IsOfPeople of
            → (head : Name) → head_at (files_of new) own of id ≡ Head head → Was head
        fetch_was end result answers new at of people head has = elim (fetch_once own peer remote old of id is_id end result answers) [
          | inl stays ↦ same_was own is_own of people end new stays at head has
          | inr fetched ↦
              set_was own is_own of people fetched.head end new fetched.once
              (record { folder = peer; is = is_peer; of = local_side fetched.word; of_people = tracked_people remote fetched.word of people fetched.is_side; is_head = fetched.is_peers }) at head has
        ]

        -- a fetch, and then a merge
        both_was : (now : ℕ) (end : History) (lines : List Line) (merged : Result (List MergeLine) MergeStop) → MergedThen own peer remote now old end lines (λ mid late. MergeAnswers own remote now mid late merged)
            → (new : History) → IsMoment old end new → (of : Side) → IsOfPeople of → (head : Name) → head_at (files_of new) own of id ≡ Head head → Was head
        both_was now end lines merged is new at of people head has =
            by (fetch_once own peer remote old of id is_id mid (Ok lines) is.first) (merge_takes own remote now mid of people id is_id end merged is.then)
          where
            mid : History
            mid = is.mid

            first_grew : StaysSame own of id old mid ⊎ IsFetched own peer remote of id old mid → IsMoment old mid old
            first_grew (inl stays) = stays.grew
            first_grew (inr fetched) = (set_old_or_new own of id fetched.head old mid fetched.once).grew

            then_grew : StaysSame own of id mid end ⊎ TakesTracked own remote of id mid end → IsMoment mid end mid
            then_grew (inl stays) = stays.grew
            then_grew (inr takes) = (set_old_or_new own of id takes.head mid end takes.once).grew

            -- where the fetch ends
            at_mid : IsMoment old mid old → (of : Side) → IsOfPeople of → (head : Name) → head_at (files_of mid) own of id ≡ Head head → Was head
            at_mid grew of people head has = fetch_was mid (Ok lines) is.first mid (last_moment old mid grew) of people head has

            -- and from there
            later : IsMoment old mid old → StaysSame own of id mid end ⊎ TakesTracked own remote of id mid end → IsMoment mid end new → Was head
            later grew (inl stays) late = at_mid grew of people head (sym (stays.each new late) ∙ has)
            later grew (inr takes) late = elim ((set_old_or_new own of id takes.head mid end takes.once).each new late) [
              | inl same ↦ at_mid grew of people head (sym same ∙ has)
              | inr then ↦
                  let heads : Head takes.head ≡ Head head = sym (set_end own of id takes.head mid end takes.once) ∙ sym then ∙ has in
                  let is_it : takes.head ≡ head = cc in
                  subst Was is_it (at_mid grew (side.RemoteIdentities remote) tt takes.head takes.is_tracked)
            ]

            by : StaysSame own of id old mid ⊎ IsFetched own peer remote of id old mid → StaysSame own of id mid end ⊎ TakesTracked own remote of id mid end → Was head
            by first then = elim (IsMoment-cases old mid end new (first_grew first) (then_grew then) at) [
              | inl early ↦ fetch_was mid (Ok lines) is.first new early of people head has
              | inr late ↦ later (first_grew first) then late
            ]

        -- a pull
        pub pull_was : (now : ℕ) (end : History) (result : Result Pulled MergeStop) → PullAnswers own peer remote now old end result → (new : History) → IsMoment old end new → (of : Side) → IsOfPeople of
            → (head : Name) → head_at (files_of new) own of id ≡ Head head → Was head
        pull_was now end (Ok pulled) is new at of people head has = both_was now end pulled.fetched (Ok pulled.merged) is new at of people head has
        pull_was now end (Err why) (inl none) new at of people head has =
            same_was own is_own of people end new (stays_none own of id old end (not_begun_same own remote now why old end none)) at head has
        pull_was now end (Err why) (inr (inl by_fetch)) new at of people head has = fetch_was end (Err by_fetch.stop) by_fetch.ended new at of people head has
        pull_was now end (Err why) (inr (inr (fetched, is))) new at of people head has = both_was now end fetched (Err why) is new at of people head has
