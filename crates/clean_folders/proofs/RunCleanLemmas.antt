-- A merge or a pull behind runs with unlike seeds refuses a bug by a limit alone.
use Rattle.std.proofs.Common.{◌≡◌, ◌≢◌, ◌⊎◌, inl, inr, refl, sym, ◌∙◌, subst, ℕ, IsTrue, true, List, [], ◌∷◌, ◌++◌, Contains, Ok}
use Rattle.gb_store.specs.Files.{History, files_of}
use Rattle.gb_store.specs.Moments.{IsMoment, Wrote}
use Rattle.gb_store.proofs.MomentLemmas.{IsMoment-of_first}
use Rattle.object_store.specs.Growth.{OnlyGrew}
use Rattle.object_store.specs.Held.{objects_after}
use Rattle.dag_entity.specs.declared.fault.EntityFault.{EntityFault}
use Rattle.remote_name.specs.declared.remote.RemoteName.{RemoteName}
use Rattle.repo_state.proofs.PlaceLemmas.{same_or_other}
use Rattle.repo_writes.specs.Kinds.{IsWrite}
use Rattle.repo_writes.proofs.KeptLemmas.{apart_loses_nothing, loses_nothing}
use Rattle.sync_writes.proofs.FetchKindLemmas.{fetch_writes}
use Rattle.merge_steps.specs.Pulling.{PullAnswers}
use Rattle.merge_steps.specs.Turns.{MergeAnswers}
use Rattle.merge_steps.specs.declared.line.MergeLine.{MergeLine}
use Rattle.merge_steps.specs.declared.line.MergeOutcome.TheVariants as outcome
use Rattle.merge_steps.specs.declared.line.Pulled.{Pulled}
use Rattle.merge_steps.proofs.MergeWriteLemmas.{merge_wrote}
use Rattle.words.specs.Words.{asked_of}
use Rattle.words.specs.declared.pair.FolderPair.{FolderPair}
use Rattle.words.specs.declared.words.Asked.TheVariants as asked
use Rattle.words.specs.declared.words.Command.TheVariants.{Edit}
use Rattle.words.specs.declared.words.MergeRequest.{MergeRequest}
use Rattle.words.specs.declared.words.PeerCommand.TheVariants.{Pull}
use Rattle.words.specs.declared.words.PeerRequest.{PeerRequest}
use Rattle.bug_run.specs.Exchanges.{answer_of_merge, answer_of_pull}
use Rattle.bug_run.specs.Printed.{HasLines}
use Rattle.bug_run.specs.Run.{Call, call_of}
use Rattle.bug_run.specs.Runs.{AreAllSound, AreApart, IsRun}
use Rattle.bug_run.proofs.ExchangeLemmas.{apart as apart_pair}
use Rattle.bug_run.proofs.ExchangeWriteLemmas.{in_time}
use Rattle.bug_run.proofs.LineLemmas.{merge_tells, pull_tells}
use Rattle.full_exchanges.specs.Having.{HaveOneTextEach}
use Rattle.full_exchanges.proofs.ExchangeLemmas.{one_text_before}
use Rattle.exchange_runs.specs.Takes.{RunsAmong, TakesAmong}
use Rattle.operation_origins.specs.Once.{IsFresh, StandOnce}
use Rattle.operation_origins.specs.Seen.{SeenAreSound}
use Rattle.operation_origins.proofs.OnceLemmas.{all_stand, before_sound, before_text, stands_then}
use Rattle.operation_origins.proofs.SeenLemmas.{all_seen, seen_then}
use Rattle.operation_origins.specs.Limits.{IsLimit}
use Rattle.operation_origins.specs.Tracked.{TrackedAuthorsAreKnown}
use Rattle.operation_origins.proofs.LimitMergeLemmas.{line_limit}
use Rattle.operation_origins.proofs.LimitPullLemmas.{pulled_limit}
use Rattle.clean_folders.specs.Seeds.{HaveNoCollision, HaveUnlikeSeeds}
use Rattle.clean_folders.proofs.FreshLemmas.{runs_fresh}
use Rattle.clean_folders.proofs.OnceLemmas.{stand_in_one}

-- a run that asks for a command with a peer makes no operation
peer_makes_nothing : (folders : List (List ℕ)) (old new : History) (run : IsRun folders old new) (request : PeerRequest) → asked_of run.words ≡ asked.Exchange request → IsFresh folders old new run
peer_makes_nothing folders old new run request asks bug other made was is_other makes there share =
    let clash : asked.Exchange request ≡ asked.Request (record { folder = makes.folder; command = Edit makes.edits }) = sym asks ∙ makes.asked_for in cc clash

module _ (folders : List (List ℕ)) (apart : AreApart folders) (old : History) (runs : RunsAmong folders [] old) (seeds : HaveUnlikeSeeds folders [] old runs) (none : HaveNoCollision folders [] old runs) where
  -- each operation stands once
  pub each_once : HaveOneTextEach (files_of old) folders → StandOnce (files_of old) folders
  each_once one_text = all_stand folders apart old runs one_text (runs_fresh folders apart old runs one_text seeds none)

  module _ (new : History) (run : IsRun folders old new) (prints : IsTrue run.sink_tells) (has : HasLines run.status) where
    abbrev call : Call
    call = call_of true run.sink_tells run.takes_memory (asked_of run.words) run.moment

    -- what a merge tells
    pub merge_clean : (request : MergeRequest) → HaveOneTextEach (files_of old) folders → asked_of run.words ≡ asked.Merge request → Contains folders request.folder
        → TrackedAuthorsAreKnown (files_of old) request.folder request.remote
        → (lines : List MergeLine) × MergeAnswers request.folder request.remote run.moment.now old run.end (Ok lines)
        × (run.after ≡ run.before ++ (answer_of_merge lines).text)
        × ((line : MergeLine) (why : EntityFault) → Contains lines line → line.outcome ≡ outcome.InvalidBug why → IsLimit why)
    merge_clean request one_text asks is known =
        let told = merge_tells call old run.end run.before run.after run.status request refl prints asks run.answers has in
        let once = stand_in_one (files_of old) folders request.folder is (each_once one_text) in
        let seen = all_seen folders apart old runs one_text in (
          told.0,
          told.1,
          told.2,
          λ line why mine invalid. line_limit request.folder request.remote run.moment.now (in_time run.moment) old run.end told.0 told.1 (before_sound folders apart old runs request.folder is) once
              (λ id head is_id at. seen request.folder request.remote id head is is_id at) known line why mine invalid,
        )

    -- what a pull tells
    module _ (pair : FolderPair) (remote : RemoteName) (asks : asked_of run.words ≡ asked.Exchange (record { pair = pair; command = Pull remote })) (own : Contains folders pair.own) (peer : Contains folders pair.peer)
        (one_text : HaveOneTextEach (files_of run.end) folders) where
      abbrev Answers : Pulled → Type 0
      Answers pulled = PullAnswers pair.own pair.peer remote run.moment.now old run.end (Ok pulled)

      module _ (pulled : Pulled) (done : Answers pulled) where
        abbrev pub mid : History
        mid = done.mid

        pub fetched : IsMoment old mid mid
        fetched =
            let wrote = fetch_writes pair.own pair.peer remote (apart_pair pair) old mid (Ok pulled.fetched) done.first in record { later = []; done = wrote.writes; before = wrote.grew; after = refl }

        pub wrote : Wrote (IsWrite pair.own) mid run.end
        wrote = merge_wrote pair.own remote run.moment.now mid run.end (Ok pulled.merged) (in_time run.moment) done.then

        pub merged : IsMoment mid run.end mid
        merged = record { later = wrote.writes; done = []; before = refl; after = wrote.grew }

        pub merged_end : IsMoment mid run.end run.end
        merged_end = record { later = []; done = wrote.writes; before = wrote.grew; after = refl }

        -- the run that stops where the merge begins
        abbrev pub stopped : IsRun folders old mid
        stopped = record {
          words = run.words;
          place = run.place;
          moment = run.moment;
          end = run.end;
          sink_tells = run.sink_tells;
          takes_memory = run.takes_memory;
          before = run.before;
          after = run.after;
          status = run.status;
          answers = run.answers;
          stop = IsMoment-of_first old mid run.end mid fetched merged;
        }

        -- takes from one of the folders
        pub takes : TakesAmong folders (asked_of run.words)
        takes = subst (TakesAmong folders) (sym asks) (λ here. peer)

        -- the merge loses no object
        pub grew : (folder : List ℕ) → Contains folders folder → OnlyGrew (objects_after mid folder) (objects_after run.end folder)
        grew folder is = each (same_or_other folder pair.own)
          where
            each : (folder ≡ pair.own) ⊎ (folder ≢ pair.own) → OnlyGrew (objects_after mid folder) (objects_after run.end folder)
            each (inl same) =
                subst (λ (f : List ℕ). OnlyGrew (objects_after mid f) (objects_after run.end f)) (sym same) ((loses_nothing pair.own mid run.end wrote).each run.end merged_end).objects
            each (inr differ) = ((apart_loses_nothing folder pair.own mid run.end (λ overlap. differ (apart folder pair.own is own overlap)) wrote).each run.end merged_end).objects

        pub text_then : HaveOneTextEach (files_of mid) folders
        text_then = one_text_before folders mid run.end grew one_text

        pub text_before : HaveOneTextEach (files_of old) folders
        text_before = before_text folders apart old mid stopped text_then

        sound : AreAllSound folders (files_of old)
        sound = before_sound folders apart old runs

        once_then : StandOnce (files_of mid) folders
        once_then = stands_then folders apart old mid stopped takes sound text_then (peer_makes_nothing folders old mid stopped (record { pair = pair; command = Pull remote }) asks) (each_once text_before)

        seen_at : SeenAreSound (files_of mid) folders
        seen_at = seen_then folders apart old mid stopped takes sound text_then (all_seen folders apart old runs text_before)

        pub pulled_clean : TrackedAuthorsAreKnown (files_of mid) pair.own remote → (line : MergeLine) (why : EntityFault) → Contains pulled.merged line → line.outcome ≡ outcome.InvalidBug why → IsLimit why
        pulled_clean known line why mine invalid =
            pulled_limit pair.own pair.peer remote run.moment.now (in_time run.moment) old run.end pulled (apart_pair pair) (sound pair.own own) done
            (stand_in_one (files_of mid) folders pair.own own once_then) (λ id head is_id at. seen_at pair.own remote id head own is_id at) known line why mine invalid

      pub pull_clean : (pulled : Pulled) × (done : Answers pulled) × (run.after ≡ run.before ++ (answer_of_pull pulled).text)
          × (TrackedAuthorsAreKnown (files_of done.mid) pair.own remote → (line : MergeLine) (why : EntityFault) → Contains pulled.merged line → line.outcome ≡ outcome.InvalidBug why → IsLimit why)
      pull_clean =
          let told = pull_tells call old run.end run.before run.after run.status pair refl prints remote asks run.answers has in
          (told.0, told.1, told.2, λ known line why mine invalid. pulled_clean told.0 told.1 known line why mine invalid)
