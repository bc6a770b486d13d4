-- A pull between clean folders of whose merge no line tells a limit refuses no bug.
use Rattle.std.proofs.Common.{◌≡◌, refl, subst, ℕ, Bool, true, false, IsTrue, List, ◌++◌, Contains, Option, Ok}
use Rattle.gb_text.specs.declared.id.Id.{Id}
use Rattle.gb_text.specs.declared.id.Name.{Name}
use Rattle.gb_store.specs.Files.{History, files_of}
use Rattle.dag_entity.specs.declared.fault.EntityFault.{EntityFault}
use Rattle.remote_name.specs.declared.remote.RemoteName.{RemoteName}
use Rattle.sync_steps.specs.declared.line.EntityWord.TheVariants as word
use Rattle.sync_steps.specs.Lines as copies
use Rattle.merge_steps.specs.MergeLines.{is_refused}
use Rattle.merge_steps.specs.Merging.{BugOutcome}
use Rattle.merge_steps.specs.Pulling.{PullAnswers}
use Rattle.merge_steps.specs.Turns.{IsMerged}
use Rattle.merge_steps.specs.declared.line.MergeLine.{MergeLine}
use Rattle.merge_steps.specs.declared.line.MergeOutcome.{MergeOutcome}
use Rattle.merge_steps.specs.declared.line.MergeOutcome.TheVariants as outcome
use Rattle.merge_steps.specs.declared.line.Pulled.{Pulled}
use Rattle.merge_steps.proofs.LineTurnLemmas.{turn_of}
use Rattle.words.specs.Words.{asked_of}
use Rattle.words.specs.declared.pair.FolderPair.{FolderPair}
use Rattle.words.specs.declared.words.Asked.TheVariants as asked
use Rattle.words.specs.declared.words.PeerCommand.TheVariants.{Pull}
use Rattle.bug_run.specs.Exchanges.{answer_of_pull}
use Rattle.bug_run.specs.Printed.{HasLines}
use Rattle.bug_run.specs.Runs.{IsRun}
use Rattle.full_exchanges.specs.Having.{HaveOneTextEach}
use Rattle.full_exchanges.specs.Pulls.{RefusesNoBug}
use Rattle.operation_origins.specs.Limits.{IsLimit}
use Rattle.clean_folders.specs.Clean.{AreClean, TellsNoLimit}
use Rattle.clean_folders.proofs.FetchLemmas.{fetched_clean}
use Rattle.clean_folders.proofs.MergeLemmas.{pull_refuses}

-- what does not refuse
unless : (refused : Bool) → (refused ≡ true → ⊥) → refused ≡ false
unless true none = absurd (none refl)
unless false none = refl

-- a turn of a bug refuses it because it is invalid
invalid_alone : (folder : List ℕ) (user : Id) (authors : List Id) (now : ℕ) (id : Id) (local : Option Name) (tracked : Name) (out : MergeOutcome) (before after : History)
    → BugOutcome folder user authors now id local tracked out before after → is_refused out ≡ true → (why : EntityFault) × (out ≡ outcome.InvalidBug why)
invalid_alone folder user authors now id local tracked outcome.Nothing before after is refused = absurd (cc refused)
invalid_alone folder user authors now id local tracked outcome.New before after is refused = absurd (cc refused)
invalid_alone folder user authors now id local tracked outcome.Forward before after is refused = absurd (cc refused)
invalid_alone folder user authors now id local tracked outcome.Joined before after is refused = absurd (cc refused)
invalid_alone folder user authors now id local tracked (outcome.InvalidBug why) before after is refused = (why, refl)
invalid_alone folder user authors now id local tracked (outcome.InvalidIdentity why) before after none refused = absurd none
invalid_alone folder user authors now id local tracked (outcome.NotForward name) before after none refused = absurd none

-- so does a line of a bug
line_invalid : (folder : List ℕ) (remote : RemoteName) (now : ℕ) (old new : History) (lines : List MergeLine) → IsMerged folder remote now lines old new → (line : MergeLine) → Contains lines line → line.word ≡ word.Bug
    → is_refused line.outcome ≡ true → (why : EntityFault) × (line.outcome ≡ outcome.InvalidBug why)
line_invalid folder remote now old new lines done line among bug =
    let of = turn_of folder remote now old new lines done line among bug in
    subst (λ (l : MergeLine). is_refused l.outcome ≡ true → (why : EntityFault) × (l.outcome ≡ outcome.InvalidBug why)) of.is
    (λ refused. invalid_alone folder done.tracked.user done.first.authors now of.turn.entity.id of.step.local of.step.tracked of.turn.outcome of.before of.after of.step.is refused)

module _ (folders : List (List ℕ)) (old : History) (clean : AreClean folders old) (new : History) (run : IsRun folders old new) (prints : IsTrue run.sink_tells) (has : HasLines run.status)
    (pair : FolderPair) (remote : RemoteName) (asks : asked_of run.words ≡ asked.Exchange (record { pair = pair; command = Pull remote })) (own : Contains folders pair.own) (peer : Contains folders pair.peer)
    (one_text : HaveOneTextEach (files_of run.end) folders) where
  pub refuses_none : (pulled : Pulled) → PullAnswers pair.own pair.peer remote run.moment.now old run.end (Ok pulled)
      → ((line : MergeLine) (why : EntityFault) → Contains pulled.merged line → line.outcome ≡ outcome.InvalidBug why → IsLimit why) → TellsNoLimit pulled → RefusesNoBug pulled
  refuses_none pulled done limits none = record {
    fetched = λ line among bug. unless (copies.is_refused line.outcome)
        (λ refused. fetched_clean folders clean.apart old clean.runs new run one_text prints has pair own peer remote pulled done line among refused);
    merged = λ line among bug. unless (is_refused line.outcome)
        (λ refused.
        let invalid = line_invalid pair.own remote run.moment.now done.mid run.end pulled.merged done.then line among bug refused in
        none line among (record { why = invalid.0; told = invalid.1; limit = limits line invalid.0 among invalid.1 }));
  }

  pub pull_without_limit : (pulled : Pulled) × PullAnswers pair.own pair.peer remote run.moment.now old run.end (Ok pulled) × (run.after ≡ run.before ++ (answer_of_pull pulled).text)
      × (TellsNoLimit pulled → RefusesNoBug pulled)
  pull_without_limit =
      let told = pull_refuses folders old clean new run prints has pair remote asks own peer one_text in
      (told.0, told.1, told.2, refuses_none told.0 told.1 told.3)
