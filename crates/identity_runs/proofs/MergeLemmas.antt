-- After runs that make each identity once, and edit it only at home, no merge refuses an identity.
use Rattle.std.proofs.Common.{◌≡◌, ◌≢◌, ◌⊎◌, ◌<◌, ◌^◌, inl, inr, refl, sym, ◌∙◌, ap, subst, ℕ, IsTrue, true, false, List, [], ◌++◌, Contains, Option, Some, None, Ok}
use Rattle.gb_text.specs.Digits.{IsId}
use Rattle.gb_text.specs.declared.id.Id.{Id}
use Rattle.gb_text.specs.declared.id.Name.{Name}
use Rattle.gb_store.specs.Files.{History, files_of}
use Rattle.gb_store.specs.Moments.{IsMoment, Wrote, at_moment}
use Rattle.gb_store.proofs.MomentLemmas.{IsMoment-of_second, WroteBy-after, WroteBy-before, at_moment-from_later}
use Rattle.object_store.specs.Growth.{OnlyGrew}
use Rattle.object_store.specs.Held.{objects_after, objects_in}
use Rattle.commit_walk.proofs.DistinctLemmas.{Contains-first}
use Rattle.identity.specs.Persons.{IsChain}
use Rattle.identity.proofs.NoFaultLemmas.{no_fault}
use Rattle.ref_store.specs.Refs.{Head}
use Rattle.remote_name.specs.declared.remote.RemoteName.{RemoteName}
use Rattle.repo_state.specs.Answers.{IsHeadAt}
use Rattle.repo_state.specs.Listed.{ref_with}
use Rattle.repo_state.specs.Sides.{head_at}
use Rattle.repo_state.specs.Sound.{IsSoundIdentity}
use Rattle.repo_state.specs.Sound as parts
use Rattle.repo_state.specs.declared.side.Side.TheVariants as side
use Rattle.repo_state.proofs.PlaceLemmas.{same_or_other}
use Rattle.repo_writes.specs.Kinds.{IsWrite}
use Rattle.repo_writes.proofs.KeptLemmas.{apart_loses_nothing, loses_nothing}
use Rattle.sync_steps.specs.declared.line.EntityWord.TheVariants as word
use Rattle.sync_writes.proofs.FetchKindLemmas.{fetch_writes}
use Rattle.merge_steps.specs.MergeLines.{is_refused}
use Rattle.merge_steps.specs.Merging.{MergesPerson, PersonOutcome}
use Rattle.merge_steps.specs.Pulling.{PullAnswers}
use Rattle.merge_steps.specs.Turns.{IsMerged, MergeAnswers}
use Rattle.merge_steps.specs.declared.line.MergeLine.{MergeLine}
use Rattle.merge_steps.specs.declared.line.MergeOutcome.{MergeOutcome}
use Rattle.merge_steps.specs.declared.line.MergeOutcome.TheVariants as outcome
use Rattle.merge_steps.specs.declared.line.Pulled.{Pulled}
use Rattle.merge_steps.proofs.MergeWriteLemmas.{merge_wrote}
use Rattle.merge_steps.proofs.TurnOfLemmas.{TurnOf, turn_of}
use Rattle.words.specs.Words.{asked_of}
use Rattle.words.specs.declared.pair.FolderPair.{FolderPair}
use Rattle.words.specs.declared.words.Asked.TheVariants as asked
use Rattle.words.specs.declared.words.MergeRequest.{MergeRequest}
use Rattle.words.specs.declared.words.PeerCommand.TheVariants.{Pull}
use Rattle.words.specs.declared.words.Request.{Request}
use Rattle.bug_run.specs.Exchanges.{answer_of_merge, answer_of_pull}
use Rattle.bug_run.specs.Printed.{HasLines}
use Rattle.bug_run.specs.Run.{Call, call_of}
use Rattle.bug_run.specs.Runs.{AreApart, IsRun}
use Rattle.bug_run.proofs.ExchangeLemmas.{apart as apart_pair}
use Rattle.bug_run.proofs.ExchangeWriteLemmas.{in_time}
use Rattle.bug_run.proofs.LineLemmas.{merge_tells, pull_tells}
use Rattle.full_exchanges.specs.Having.{HaveOneTextEach}
use Rattle.full_exchanges.proofs.ExchangeLemmas.{one_text_before}
use Rattle.exchange_runs.specs.Takes.{RunsAmong, TakesAmong}
use Rattle.exchange_runs.specs.Takes as among
use Rattle.operation_origins.proofs.OnceLemmas.{before_sound}
use Rattle.identity_runs.proofs.PeopleLemmas.{all_people}
use Rattle.identity_runs.proofs.RefLemmas.{kinds_leave}
use Rattle.identity_runs.specs.Heads.{AreInLine}
use Rattle.identity_runs.specs.Homes.{AreEditedAtHome, AreMadeOnce}
use Rattle.identity_runs.proofs.ChainLemmas.{chain_meets}
use Rattle.identity_runs.proofs.LineLemmas.{none_diverge_in_one}

-- a turn of an identity refuses it only where the tracked chain has a fault, or two heads diverge
turn_takes : (folder : List ℕ) (id : Id) (local : Option Name) (tracked : Name) (out : MergeOutcome) (before after : History) → PersonOutcome folder id local tracked out before after
    → IsChain (objects_after before folder) id tracked
    → ((low : Name) → local ≡ Some low → IsChain (objects_after before folder) id low × AreInLine (objects_after before folder) low tracked) → is_refused out ≡ false
turn_takes folder id local tracked outcome.Nothing before after is chain line = refl
turn_takes folder id local tracked outcome.New before after is chain line = refl
turn_takes folder id local tracked outcome.Forward before after is chain line = refl
turn_takes folder id local tracked outcome.Joined before after none chain line = absurd none
turn_takes folder id local tracked (outcome.InvalidBug f) before after none chain line = absurd none
turn_takes folder id local tracked (outcome.InvalidIdentity f) before after is chain line = absurd (no_fault (objects_after before folder) id tracked f chain is.0.1)
turn_takes folder id None tracked (outcome.NotForward name) before after is chain line = absurd (cc (is.1.2))
turn_takes folder id (Some low) tracked (outcome.NotForward name) before after is chain line =
    let held = objects_after before folder in
    let at = line low refl in
    elim at.1 [
      | inl below ↦ absurd (is.1.0.0 (chain_meets held id low at.0 tracked below))
      | inr below ↦ absurd (is.1.1 (chain_meets held id tracked chain low below))
    ]

module _ (folders : List (List ℕ)) (apart : AreApart folders) (old : History) (runs : RunsAmong folders [] old) (once : AreMadeOnce folders [] old runs) (at_home : AreEditedAtHome folders [] old runs)
    (new : History) (run : IsRun folders old new) (takes : TakesAmong folders (asked_of run.words)) (no_request : (request : Request) → asked_of run.words ≡ asked.Request request → ⊥)
    (one_text : HaveOneTextEach (files_of run.end) folders) where
  -- a merge in one of the folders, at the end of the run
  module _ (folder : List ℕ) (is : Contains folders folder) (remote : RemoteName) (now : ℕ) (in_time : now < 2 ^ 64) (mid : History) (came : IsMoment old run.end mid) (lines : List MergeLine)
      (merge : IsMerged folder remote now lines mid run.end) where
    wrote : Wrote (IsWrite folder) mid run.end
    wrote = merge_wrote folder remote now mid run.end (Ok lines) in_time merge

    -- a moment of the merge is one of the run
    of_run : (moment : History) → IsMoment mid run.end moment → IsMoment old run.end moment
    of_run moment at = IsMoment-of_second old mid run.end moment (record { later = came.done; done = []; before = refl; after = came.before }) at

    module _ (moment : History) (at : IsMoment mid run.end moment) where
      -- the run that stops there
      abbrev short : IsRun folders old moment
      short = record {
        words = run.words;
        place = run.place;
        moment = run.moment;
        end = run.end;
        sink_tells = run.sink_tells;
        takes_memory = run.takes_memory;
        before = run.before;
        after = run.after;
        status = run.status;
        answers = run.answers;
        stop = of_run moment at;
      }

      abbrev more : RunsAmong folders [] moment
      more = among.one_more old moment runs short takes

      once_then : AreMadeOnce folders [] moment more
      once_then = (once, λ id place home makes made. no_request _ makes.asked_for)

      at_home_then : AreEditedAtHome folders [] moment more
      at_home_then = (at_home, λ id place edits. absurd (no_request _ edits.asked_for))

      -- no object is lost from there on
      grew : (place : List ℕ) → Contains folders place → OnlyGrew (objects_after moment place) (objects_after run.end place)
      grew place is_place = by (same_or_other place folder)
        where
          rest : Wrote (IsWrite folder) moment run.end
          rest = WroteBy-after (at_moment (IsWrite folder)) mid run.end moment (at_moment-from_later (IsWrite folder)) wrote at

          last : IsMoment moment run.end run.end
          last = record { later = []; done = rest.writes; before = rest.grew; after = refl }

          by : (place ≡ folder) ⊎ (place ≢ folder) → OnlyGrew (objects_after moment place) (objects_after run.end place)
          by (inl same) = subst (λ (f : List ℕ). OnlyGrew (objects_after moment f) (objects_after run.end f)) (sym same) ((loses_nothing folder moment run.end rest).each run.end last).objects
          by (inr differ) = ((apart_loses_nothing place folder moment run.end (λ overlap. differ (apart place folder is_place is overlap)) rest).each run.end last).objects

      text_then : HaveOneTextEach (files_of moment) folders
      text_then = one_text_before folders moment run.end grew one_text

      -- tracking refs are as they were when the merge began
      tracked_stays : (id : Id) → head_at (files_of moment) folder (side.RemoteIdentities remote) id ≡ head_at (files_of mid) folder (side.RemoteIdentities remote) id
      tracked_stays id = kinds_leave folder folder (inl refl) mid moment (WroteBy-before (at_moment (IsWrite folder)) mid run.end moment wrote at) remote word.Identity id

      module _ (id : Id) (is_id : IsId id) where
        -- what is tracked has no fault
        tracked_chain : (tracked : Name) → head_at (files_of moment) folder (side.RemoteIdentities remote) id ≡ Head tracked → IsChain (objects_after moment folder) id tracked
        tracked_chain tracked reads = all_people folders apart moment more text_then folder remote id tracked is is_id reads

        -- and is in line with the local head
        local_line : (tracked : Name) → head_at (files_of moment) folder (side.RemoteIdentities remote) id ≡ Head tracked → (low : Name) → head_at (files_of moment) folder side.Identities id ≡ Head low
            → IsChain (objects_after moment folder) id low × AreInLine (objects_after moment folder) low tracked
        local_line tracked reads low local = (
          subst (IsSoundIdentity (objects_in (files_of moment) folder) id) local (before_sound folders apart moment more folder is parts.Identities id is_id),
          none_diverge_in_one folders apart moment more once_then at_home_then text_then folder id low tracked is is_id
              (record { folder = folder; is = Contains-first folder []; of = side.Identities; of_people = tt; is_head = local })
              (record { folder = folder; is = Contains-first folder []; of = side.RemoteIdentities remote; of_people = tt; is_head = reads }),
        )

    -- so the turn of an identity refuses none
    person_taken : (line : MergeLine) → TurnOf folder remote word.Identity (MergesPerson folder) mid run.end line → is_refused line.outcome ≡ false
    person_taken line of = subst (λ (l : MergeLine). is_refused l.outcome ≡ false) of.is taken
      where
        step : MergesPerson folder of.turn of.at.before of.at.after
        step = of.at.step

        reads : head_at (files_of of.at.before) folder (side.RemoteIdentities remote) of.turn.entity.id ≡ Head step.tracked
        reads = tracked_stays of.at.before of.at.came of.turn.entity.id ∙ of.listed.1 ∙ ap ref_with step.is_tracked

        taken : is_refused of.turn.outcome ≡ false
        taken =
            turn_takes folder of.turn.entity.id step.local step.tracked of.turn.outcome of.at.before of.at.after step.is
            (tracked_chain of.at.before of.at.came of.turn.entity.id of.listed.0 step.tracked reads)
            (λ low some.
            local_line of.at.before of.at.came of.turn.entity.id of.listed.0 step.tracked reads low
            (subst (IsHeadAt (files_of of.at.before) folder side.Identities of.turn.entity.id) some step.is_local))

    pub none_refused : (line : MergeLine) → Contains lines line → line.word ≡ word.Identity → is_refused line.outcome ≡ false
    none_refused line among_lines person = elim (turn_of folder remote now mid run.end lines merge line among_lines) [
      | inl of ↦ person_taken line of
      | inr of ↦ absurd (cc (ap (λ (l : MergeLine). l.word) of.is ∙ person))
    ]

-- ---- what runs print

module _ (folders : List (List ℕ)) (apart : AreApart folders) (old : History) (runs : RunsAmong folders [] old) (once : AreMadeOnce folders [] old runs) (at_home : AreEditedAtHome folders [] old runs)
    (new : History) (run : IsRun folders old new) (one_text : HaveOneTextEach (files_of run.end) folders) (prints : IsTrue run.sink_tells) (has : HasLines run.status) where
  abbrev call : Call
  call = call_of true run.sink_tells run.takes_memory (asked_of run.words) run.moment

  -- of the lines of a merge, none refuses an identity
  abbrev RefuseNone : List MergeLine → Type 0
  RefuseNone lines = (line : MergeLine) → Contains lines line → line.word ≡ word.Identity → is_refused line.outcome ≡ false

  pub merge_refuses_none : (request : MergeRequest) → asked_of run.words ≡ asked.Merge request → Contains folders request.folder
      → (lines : List MergeLine) × MergeAnswers request.folder request.remote run.moment.now old run.end (Ok lines) × (run.after ≡ run.before ++ (answer_of_merge lines).text) × RefuseNone lines
  merge_refuses_none request asks is =
      let told = merge_tells call old run.end run.before run.after run.status request refl prints asks run.answers has in
      let wrote = merge_wrote request.folder request.remote run.moment.now old run.end (Ok told.0) (in_time run.moment) told.1 in (
        told.0,
        told.1,
        told.2,
        none_refused folders apart old runs once at_home new run (subst (TakesAmong folders) (sym asks) tt) (λ other ask. let clash : asked.Merge request ≡ asked.Request other = sym asks ∙ ask in cc clash) one_text
            request.folder is request.remote run.moment.now (in_time run.moment) old (record { later = wrote.writes; done = []; before = refl; after = wrote.grew }) told.0 told.1,
      )

  -- nor of those of a pull
  module _ (pair : FolderPair) (remote : RemoteName) (asks : asked_of run.words ≡ asked.Exchange (record { pair = pair; command = Pull remote })) (own : Contains folders pair.own) (peer : Contains folders pair.peer) where
    pub pulled_refuses_none : (pulled : Pulled) → PullAnswers pair.own pair.peer remote run.moment.now old run.end (Ok pulled) → RefuseNone pulled.merged
    pulled_refuses_none pulled done =
        let first = fetch_writes pair.own pair.peer remote (apart_pair pair) old done.mid (Ok pulled.fetched) done.first in
        let then = merge_wrote pair.own remote run.moment.now done.mid run.end (Ok pulled.merged) (in_time run.moment) done.then in
        none_refused folders apart old runs once at_home new run (subst (TakesAmong folders) (sym asks) (λ here. peer))
        (λ other ask. let clash : asked.Exchange (record { pair = pair; command = Pull remote }) ≡ asked.Request other = sym asks ∙ ask in cc clash) one_text
        pair.own own remote run.moment.now (in_time run.moment) done.mid (record { later = then.writes; done = first.writes; before = first.grew; after = then.grew }) pulled.merged done.then

    pub pull_refuses_none : (pulled : Pulled) × PullAnswers pair.own pair.peer remote run.moment.now old run.end (Ok pulled) × (run.after ≡ run.before ++ (answer_of_pull pulled).text) × RefuseNone pulled.merged
    pull_refuses_none =
        let told = pull_tells call old run.end run.before run.after run.status pair refl prints remote asks run.answers has in
        (told.0, told.1, told.2, pulled_refuses_none told.0 told.1)
