-- What the headline says of a run holds where the folder is sound; and bugs with the same operation commits print the same text.
use Rattle.std.proofs.Common.{◌≡◌, inl, inr, ℕ, IsTrue, List, [], ◌∷◌, ◌++◌, Result, Ok, Err, refl, sym, ◌∙◌, ap}
use Rattle.gb_store.specs.Files.{History, files_of}
use Rattle.merge_steps.proofs.BothSideLemmas.{line_joins}
use Rattle.merge_steps.proofs.LineJoinLemmas.{line_refused}
use Rattle.merge_steps.proofs.MergeWriteLemmas.{merge_wrote}
use Rattle.remote_name.specs.declared.remote.RemoteName.{RemoteName}
use Rattle.repo_state.specs.Bugs.{FindsBug}
use Rattle.repo_state.specs.Finds.{FindsNoId}
use Rattle.repo_state.specs.Sound.{IsSound}
use Rattle.repo_state.specs.Sound as part
use Rattle.repo_state.specs.declared.side.HeadEntry.{HeadEntry}
use Rattle.repo_state.specs.declared.side.Side.TheVariants as side
use Rattle.repo_state.specs.declared.stop.FindStop.TheVariants as find
use Rattle.repo_state.specs.declared.stop.Missed.{Missed}
use Rattle.repo_state.specs.declared.stop.Missed.TheVariants as missed
use Rattle.repo_steps.specs.declared.refusal.Refusal.{Refusal}
use Rattle.repo_steps.specs.declared.refusal.Stop.{Stop}
use Rattle.repo_steps.specs.declared.refusal.Stop.TheVariants as stop
use Rattle.repo_writes.proofs.SoundLemmas.{keeps_sound}
use Rattle.repo_view.specs.Shown.{AgreeOnAuthors, HaveSameCommits, ShowAnswers}
use Rattle.repo_view.proofs.ShownLemmas.{same_shown, show_not_damaged}
use Rattle.sync_writes.specs.Kinds.{FetchWrites}
use Rattle.sync_writes.proofs.FetchKeptLemmas.{fetch_keeps_parts}
use Rattle.sync_writes.proofs.FetchKindLemmas.{fetch_writes}
use Rattle.words.specs.declared.pair.FolderPair.{FolderPair}
use Rattle.words.specs.declared.words.Asked.{Asked}
use Rattle.words.specs.declared.words.Asked.TheVariants as asked
use Rattle.words.specs.declared.words.Command.{Command}
use Rattle.words.specs.declared.words.Command.TheVariants.{Edit, Log, PackRefs, Show, Users}
use Rattle.words.specs.declared.words.MergeRequest.{MergeRequest}
use Rattle.words.specs.declared.words.PeerCommand.{PeerCommand}
use Rattle.words.specs.declared.words.PeerCommand.TheVariants.{Fetch, Pull, Push}
use Rattle.bug_run.specs.Answer.{Answer}
use Rattle.bug_run.specs.Headline.{CommandEnds, HeadlineHolds, MergeEnds, OwnIsAmong, OwnIsSound, PeerEnds, PullEnds, ShowEnds}
use Rattle.bug_run.specs.Looks.{first_unread}
use Rattle.bug_run.specs.Run.{Call, CommandAnswers, PrintedAnswer, RunAnswers, env_at, status_for, status_of, text_of}
use Rattle.bug_run.specs.Runs.{AreApart, Runs}
use Rattle.bug_run.specs.declared.status.Refused.TheVariants.{ByCommand}
use Rattle.bug_run.specs.declared.status.Status.{Status}
use Rattle.bug_run.specs.declared.status.Status.TheVariants as status
use Rattle.bug_run.proofs.ExchangeLemmas.{apart}
use Rattle.bug_run.proofs.ExchangeWriteLemmas.{in_time}
use Rattle.bug_run.proofs.LineLemmas.{exchange_has_lines, merge_has_lines, merge_tells, pull_tells}
use Rattle.bug_run.proofs.ListLemmas.{list_ends}
use Rattle.bug_run.proofs.RunsLemmas.{runs_from_nothing}
use Rattle.bug_run.proofs.LookLemmas.{look_done, not_begun}
use Rattle.bug_run.proofs.ServedLemmas.{done_begun, done_was}
use Rattle.bug_run.proofs.UserStayLemmas.{last_moment}
use Rattle.bug_run.proofs.WordLemmas.{answered, printed_told}

module _ (call : Call) (old new : History) (before after : List ℕ) (answer : Status) (tells : IsTrue call.store_tells) (prints : IsTrue call.sink_tells)
    (is : RunAnswers call old new before after answer) where
  -- ---- show

  module _ (folder sought : List ℕ) (sound : IsSound folder (files_of old)) where
    -- a bug of a sound folder is missed only where the argument finds none, or several
    misses : (why : Missed) → ShowAnswers (files_of old) folder sought (Err (find.Missed why)) → FindsNoId (files_of old) folder side.Bugs sought why
    misses missed.NotFound shows = shows
    misses (missed.Ambiguous least next) shows = shows
    misses (missed.Damaged path) shows = absurd (show_not_damaged (files_of old) folder sought path sound shows)

    -- by what was answered, where all of it was printed
    show_whole : (result : Result Answer Stop) → CommandAnswers (env_at call.moment folder) (Show sought) old new result → answer ≡ status_of result
        → (IsTrue call.sink_tells → after ≡ before ++ text_of result) → ShowEnds folder sought old new before after answer
    show_whole (Ok said) done told text =
        let shown = done.0.0 in
        inl (
          told ∙ ap status_for done.0.1,
          record {
            text = said.text;
            shows = record { bug = shown.0; finds = shown.1; ops = shown.2.ops; in_order = shown.2.are; people = shown.2.people; are_people = shown.2.are_people; shows = shown.2.is };
            printed = text prints;
            unwritten = done.1;
          },
        )
    show_whole (Err stop.Memory) done told text = inr (inr (inl told))
    show_whole (Err stop.Disk) done told text = inr (inr (inr (inl told)))
    show_whole (Err (stop.Refused r)) ((why, shows, named), same) told text =
        inr (inl (record { why = why; finds = misses why shows; refused = told ∙ ap (λ (it : Refusal). status.Refused (ByCommand it)) named; unwritten = same }))

    show_by : (result : Result Answer Stop) → CommandAnswers (env_at call.moment folder) (Show sought) old new result → PrintedAnswer call result before after answer
        → ShowEnds folder sought old new before after answer
    show_by result done (inl p) = show_whole result done p.0 p.1
    show_by result done (inr (inl fault)) = inr (inr (inr (inr fault.0)))
    show_by result done (inr (inr memory)) = inr (inr (inl memory.0))

    show_ends : call.asked ≡ asked.Request (record { folder = folder; command = Show sought }) → ShowEnds folder sought old new before after answer
    show_ends asks =
        let a = answered call (record { folder = folder; command = Show sought }) old new before after answer asks is in
        let first = first_unread (files_of old) (folder ∷ []) in
        elim (a.done tells) [
          | inl unbegun ↦
              inr (inr (not_begun first (look_done (files_of old) folder (sound part.Packed)) a.result answer unbegun.0
              (printed_told call (text_of a.result) before after (status_of a.result) answer a.printed)))
          | inr answers ↦ show_by a.result answers.1 a.printed
        ]

  command_ends : (folder : List ℕ) (command : Command) → IsSound folder (files_of old) → call.asked ≡ asked.Request (record { folder = folder; command = command })
      → CommandEnds command folder old new before after answer
  command_ends folder (Show sought) sound asks = show_ends folder sought sound asks
  command_ends folder (Log sought) sound asks = tt
  command_ends folder Users sound asks = tt
  command_ends folder (Edit edit) sound asks = tt
  command_ends folder PackRefs sound asks = tt

  -- ---- merge and pull

  merge_ends : (request : MergeRequest) → IsSound request.folder (files_of old) → call.asked ≡ asked.Merge request
      → MergeEnds request.folder request.remote call.moment.now old new before after answer
  merge_ends request sound asks = record {
    answered = merge_has_lines call old new before after answer request tells asks sound is;
    lines = λ has.
        let told = merge_tells call old new before after answer request tells prints asks is has in
        record {
          lines = told.0;
          answers = told.1;
          printed = told.2;
          joins = λ line c bug ok. line_joins request.folder request.remote call.moment.now old new told.0 line (in_time call.moment) sound told.1 c bug ok;
          refuses = λ line why c bug it. line_refused request.folder request.remote call.moment.now old new told.0 told.1 line why c bug it;
        };
  }

  pull_ends : (pair : FolderPair) (remote : RemoteName) → IsSound pair.own (files_of old) → call.asked ≡ asked.Exchange (record { pair = pair; command = Pull remote })
      → PullEnds pair remote call.moment.now old new before after answer
  pull_ends pair remote sound asks = record {
    answered = exchange_has_lines call old new before after answer (record { pair = pair; command = Pull remote }) tells asks sound is;
    lines = λ has.
        let told = pull_tells call old new before after answer pair tells prints remote asks is has in
        let done = told.1 in
        let fetched = fetch_writes pair.own pair.peer remote (apart pair) old done.mid (Ok told.0.fetched) done.first in
        let merged = merge_wrote pair.own remote call.moment.now done.mid new (Ok told.0.merged) (in_time call.moment) done.then in
        let there : IsSound pair.own (files_of done.mid) =
        (keeps_sound pair.own old done.mid (fetch_keeps_parts pair.own pair.peer remote old done.mid fetched) sound).each done.mid
        (last_moment (FetchWrites pair.own pair.peer remote) old done.mid fetched) in
        record {
          pulled = told.0;
          done = done;
          printed = told.2;
          begins = record { later = merged.writes; done = fetched.writes; before = fetched.grew; after = merged.grew };
          joins = λ line c bug ok. line_joins pair.own remote call.moment.now done.mid new told.0.merged line (in_time call.moment) there done.then c bug ok;
          refuses = λ line why c bug it. line_refused pair.own remote call.moment.now done.mid new told.0.merged done.then line why c bug it;
        };
  }

  peer_ends : (pair : FolderPair) (command : PeerCommand) → IsSound pair.own (files_of old) → call.asked ≡ asked.Exchange (record { pair = pair; command = command })
      → PeerEnds command pair call.moment.now old new before after answer
  peer_ends pair (Fetch remote) sound asks = tt
  peer_ends pair (Pull remote) sound asks = pull_ends pair remote sound asks
  peer_ends pair Push sound asks = tt

  -- ---- a run

  by_asked : (asks : Asked) → call.asked ≡ asks → OwnIsSound asks (files_of old) → HeadlineHolds asks call.moment old new before after answer
  by_asked asked.Nothing e own = tt
  by_asked (asked.Refused bad) e own = tt
  by_asked (asked.Request request) e own = command_ends request.folder request.command (own request.folder refl) e
  by_asked (asked.Exchange request) e own = peer_ends request.pair request.command (own request.pair.own refl) e
  by_asked (asked.Merge request) e own = merge_ends request (own request.folder refl) e
  by_asked (asked.List request) e own = list_ends call old new before after request tells e (own request.folder refl) prints answer is

  pub run_headline : OwnIsSound call.asked (files_of old) → HeadlineHolds call.asked call.moment old new before after answer
  run_headline own = by_asked call.asked refl own

-- whatever was run before
pub after_any_runs : (folders : List (List ℕ)) (old new : History) (call : Call) (before after : List ℕ) (answer : Status) → AreApart folders → Runs folders [] old
    → IsTrue call.store_tells → IsTrue call.sink_tells → OwnIsAmong call.asked folders → RunAnswers call old new before after answer
    → HeadlineHolds call.asked call.moment old new before after answer
after_any_runs folders old new call before after answer apart runs tells prints among is =
    run_headline call old new before after answer tells prints is (λ folder own. runs_from_nothing folders apart old runs folder (among folder own))

-- ---- the same commits

module _ (call other : Call) (old new elder newer : History) (before after earlier later folder place sought words : List ℕ) (bug top : HeadEntry) where
  pub same_printed : IsTrue call.store_tells → IsTrue call.sink_tells → IsTrue other.store_tells → IsTrue other.sink_tells
      → call.asked ≡ asked.Request (record { folder = folder; command = Show sought }) → other.asked ≡ asked.Request (record { folder = place; command = Show words })
      → FindsBug (files_of old) folder sought bug → FindsBug (files_of elder) place words top
      → HaveSameCommits (files_of old) folder bug (files_of elder) place top → AgreeOnAuthors (files_of old) folder bug (files_of elder) place
      → RunAnswers call old new before after status.Done → RunAnswers other elder newer earlier later status.Done
      → (text : List ℕ) × (after ≡ before ++ text) × (later ≡ earlier ++ text)
  same_printed tells prints others printed asks also finds found commits agree is too =
      let one = answered call (record { folder = folder; command = Show sought }) old new before after status.Done asks is in
      let two = answered other (record { folder = place; command = Show words }) elder newer earlier later status.Done also too in
      let was = done_was call.sink_tells call.takes_memory before after one.result one.printed in
      let went = done_was other.sink_tells other.takes_memory earlier later two.result two.printed in
      let first = done_begun call old new (record { folder = folder; command = Show sought }) one.result was.0 was.1 (one.done tells) in
      let second = done_begun other elder newer (record { folder = place; command = Show words }) two.result went.0 went.1 (two.done others) in
      let same = same_shown (files_of old) (files_of elder) folder place sought words was.0.text went.0.text bug top finds found commits agree first.0.0 second.0.0 in
      (was.0.text, was.2 prints, went.2 printed ∙ ap (λ (text : List ℕ). earlier ++ text) (sym same))
