-- Merges and pulls of clean folders refuse bugs by limits alone.
use Rattle.std.proofs.Common.{◌≡◌, ℕ, IsTrue, List, ◌++◌, Contains, Ok}
use Rattle.gb_store.specs.Files.{History, files_of}
use Rattle.dag_entity.specs.declared.fault.EntityFault.{EntityFault}
use Rattle.remote_name.specs.declared.remote.RemoteName.{RemoteName}
use Rattle.merge_steps.specs.Pulling.{PullAnswers}
use Rattle.merge_steps.specs.Turns.{MergeAnswers}
use Rattle.merge_steps.specs.declared.line.MergeLine.{MergeLine}
use Rattle.merge_steps.specs.declared.line.MergeOutcome.TheVariants as outcome
use Rattle.merge_steps.specs.declared.line.Pulled.{Pulled}
use Rattle.words.specs.Words.{asked_of}
use Rattle.words.specs.declared.pair.FolderPair.{FolderPair}
use Rattle.words.specs.declared.words.Asked.TheVariants as asked
use Rattle.words.specs.declared.words.MergeRequest.{MergeRequest}
use Rattle.words.specs.declared.words.PeerCommand.TheVariants.{Pull}
use Rattle.bug_run.specs.Exchanges.{answer_of_merge, answer_of_pull}
use Rattle.bug_run.specs.Printed.{HasLines}
use Rattle.bug_run.specs.Runs.{IsRun}
use Rattle.full_exchanges.specs.Having.{HaveOneTextEach}
use Rattle.exchange_runs.specs.Takes.{TakesAmong}
use Rattle.operation_origins.proofs.OnceLemmas.{before_sound}
use Rattle.operation_origins.specs.Limits.{IsLimit}
use Rattle.operation_origins.specs.Tracked.{TrackedAuthorsAreKnown}
use Rattle.flat_trees.proofs.RunLemmas.{runs_flat}
use Rattle.identity_runs.proofs.PeopleLemmas.{all_authors, all_people, authors_then}
use Rattle.clean_folders.proofs.RunCleanLemmas.{merge_clean, pull_clean, stopped, takes, text_before, text_then}
use Rattle.clean_folders.specs.Clean.{AreClean}

module _ (folders : List (List ℕ)) (old : History) (clean : AreClean folders old) (new : History) (run : IsRun folders old new) (prints : IsTrue run.sink_tells) (has : HasLines run.status) where
  -- what a merge tells
  pub merge_refuses : (request : MergeRequest) → HaveOneTextEach (files_of old) folders → asked_of run.words ≡ asked.Merge request → Contains folders request.folder
      → (lines : List MergeLine) × MergeAnswers request.folder request.remote run.moment.now old run.end (Ok lines)
      × (run.after ≡ run.before ++ (answer_of_merge lines).text)
      × ((line : MergeLine) (why : EntityFault) → Contains lines line → line.outcome ≡ outcome.InvalidBug why → IsLimit why)
  merge_refuses request one_text asks is =
      merge_clean folders clean.apart old clean.runs clean.seeds clean.no_collision new run prints has request one_text asks is
      (all_authors folders clean.apart old clean.runs one_text request.folder request.remote is)

  module _ (pair : FolderPair) (remote : RemoteName) (asks : asked_of run.words ≡ asked.Exchange (record { pair = pair; command = Pull remote })) (own : Contains folders pair.own) (peer : Contains folders pair.peer)
      (one_text : HaveOneTextEach (files_of run.end) folders) where
    module _ (pulled : Pulled) (done : PullAnswers pair.own pair.peer remote run.moment.now old run.end (Ok pulled)) where
      -- the run that stops where the merge begins, between folders of one text each
      abbrev stops : IsRun folders old done.mid
      stops = stopped folders clean.apart old clean.runs clean.seeds clean.no_collision new run prints has pair remote asks own peer one_text pulled done

      from : TakesAmong folders (asked_of run.words)
      from = takes folders clean.apart old clean.runs clean.seeds clean.no_collision new run prints has pair remote asks own peer one_text pulled done

      before : HaveOneTextEach (files_of old) folders
      before = text_before folders clean.apart old clean.runs clean.seeds clean.no_collision new run prints has pair remote asks own peer one_text pulled done

      then : HaveOneTextEach (files_of done.mid) folders
      then = text_then folders clean.apart old clean.runs clean.seeds clean.no_collision new run prints has pair remote asks own peer one_text pulled done

      -- the authors of what was fetched are known
      pub fetched_known : TrackedAuthorsAreKnown (files_of done.mid) pair.own remote
      fetched_known =
          authors_then folders clean.apart old done.mid stops from (before_sound folders clean.apart old clean.runs) then (all_people folders clean.apart old clean.runs before) pair.own remote own
          (runs_flat folders clean.apart old clean.runs) (all_authors folders clean.apart old clean.runs before pair.own remote own)

    -- what a pull tells
    pub pull_refuses : (pulled : Pulled) × PullAnswers pair.own pair.peer remote run.moment.now old run.end (Ok pulled) × (run.after ≡ run.before ++ (answer_of_pull pulled).text)
        × ((line : MergeLine) (why : EntityFault) → Contains pulled.merged line → line.outcome ≡ outcome.InvalidBug why → IsLimit why)
    pull_refuses =
        let told = pull_clean folders clean.apart old clean.runs clean.seeds clean.no_collision new run prints has pair remote asks own peer one_text in
        (told.0, told.1, told.2, told.3 (fetched_known told.0 told.1))
