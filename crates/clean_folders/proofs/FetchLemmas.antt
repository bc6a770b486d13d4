-- Fetches, pulls and pushes between folders that runs left refuse no copy.
use Rattle.std.proofs.Common.{◌≡◌, refl, ◌∙◌, ap, ℕ, Bool, true, false, cond, IsTrue, List, [], ◌∷◌, ◌++◌, filter, length, Contains, Ok}
use Rattle.gb_text.specs.declared.id.Name.{Name}
use Rattle.gb_store.specs.Files.{History, files_of}
use Rattle.object_store.specs.Held.{objects_after}
use Rattle.commit_walk.proofs.DistinctLemmas.{Contains-first, Contains-later}
use Rattle.dag_entity.specs.Folders.{HaveOneText}
use Rattle.remote_name.specs.declared.remote.RemoteName.{RemoteName}
use Rattle.sync_steps.specs.Fetching.{FetchAnswers}
use Rattle.sync_steps.specs.Lines.{is_refused, lines_text_of, refused_in}
use Rattle.sync_steps.specs.Pushing.{PushAnswers}
use Rattle.sync_steps.specs.declared.line.Line.{Line}
use Rattle.sync_steps.specs.declared.line.Outcome.TheVariants as copy
use Rattle.merge_steps.specs.Pulling.{PullAnswers}
use Rattle.merge_steps.specs.declared.line.Pulled.{Pulled}
use Rattle.words.specs.Words.{asked_of}
use Rattle.words.specs.declared.pair.FolderPair.{FolderPair}
use Rattle.words.specs.declared.words.Asked.TheVariants as asked
use Rattle.words.specs.declared.words.PeerCommand.TheVariants.{Fetch, Pull, Push}
use Rattle.bug_run.specs.Exchanges.{answer_of_pull}
use Rattle.bug_run.specs.Printed.{HasLines}
use Rattle.bug_run.specs.Run.{Call, call_of, status_for}
use Rattle.bug_run.specs.Runs.{AreAllSound, AreApart, IsRun}
use Rattle.bug_run.specs.declared.status.Status.TheVariants as status
use Rattle.bug_run.proofs.ExchangeLemmas.{apart as apart_pair}
use Rattle.bug_run.proofs.ExchangeWriteLemmas.{in_time}
use Rattle.bug_run.proofs.LineLemmas.{fetch_tells, pull_tells, push_tells}
use Rattle.full_exchanges.specs.Having.{HaveOneTextEach}
use Rattle.copy_limits.specs.Flat.{HasFlatEntities}
use Rattle.copy_limits.proofs.FetchLemmas.{fetch_none}
use Rattle.copy_limits.proofs.PullLemmas.{pull_none}
use Rattle.copy_limits.proofs.PushLemmas.{push_beside}
use Rattle.exchange_runs.specs.Takes.{RunsAmong}
use Rattle.operation_origins.proofs.OnceLemmas.{before_sound}
use Rattle.flat_trees.proofs.EntityLemmas.{runs_entities}

-- lines none of which refuses have no refusal
none_refused : (lines : List Line) → ((line : Line) → Contains lines line → is_refused line.outcome ≡ true → ⊥) → refused_in lines ≡ 0
none_refused [] none = refl
none_refused (line ∷ lines) none = by (is_refused line.outcome) refl (none_refused lines (λ other c. none other (Contains-later line lines other c)))
  where
    by : (b : Bool) → is_refused line.outcome ≡ b → refused_in lines ≡ 0 → refused_in (line ∷ lines) ≡ 0
    by true e rest = absurd (none line (Contains-first line lines) e)
    by false e rest =
        ap (λ (b : Bool). length (cond b (line ∷ filter (λ (l : Line). is_refused l.outcome) lines) (filter (λ (l : Line). is_refused l.outcome) lines))) e ∙ rest

module _ (folders : List (List ℕ)) (apart : AreApart folders) (old : History) (runs : RunsAmong folders [] old) (new : History) (run : IsRun folders old new) (one_text : HaveOneTextEach (files_of run.end) folders)
    (prints : IsTrue run.sink_tells) (has : HasLines run.status) (pair : FolderPair) (own : Contains folders pair.own) (peer : Contains folders pair.peer) where
  abbrev call : Call
  call = call_of true run.sink_tells run.takes_memory (asked_of run.words) run.moment

  sound : AreAllSound folders (files_of old)
  sound = before_sound folders apart old runs

  flat : (folder : List ℕ) → Contains folders folder → HasFlatEntities folder (files_of old)
  flat = runs_entities folders apart old runs

  alike : HaveOneText (objects_after run.end pair.own) (objects_after run.end pair.peer)
  alike name text other here there = one_text pair.own pair.peer name text other own peer here there

  pub fetch_clean : (remote : RemoteName) → asked_of run.words ≡ asked.Exchange (record { pair = pair; command = Fetch remote })
      → (lines : List Line) × FetchAnswers pair.own pair.peer remote old run.end (Ok lines) × (run.after ≡ run.before ++ lines_text_of lines) × (run.status ≡ status.Done)
      × ((line : Line) → Contains lines line → is_refused line.outcome ≡ true → ⊥)
  fetch_clean remote asks =
      let told = fetch_tells call old run.end run.before run.after run.status pair refl prints remote asks run.answers has in
      (told.0, told.1, told.2, told.3 ∙ ap status_for (none_refused told.0 (none told.0 told.1)), none told.0 told.1)
    where
      none : (lines : List Line) → FetchAnswers pair.own pair.peer remote old run.end (Ok lines) → (line : Line) → Contains lines line → is_refused line.outcome ≡ true → ⊥
      none lines done line among refused =
          fetch_none pair.own pair.peer remote (apart_pair pair) old run.end (sound pair.own own) (sound pair.peer peer) alike lines done line among (flat pair.peer peer) refused

  -- the lines of the fetch of a pull
  pub fetched_clean : (remote : RemoteName) (pulled : Pulled) → PullAnswers pair.own pair.peer remote run.moment.now old run.end (Ok pulled)
      → (line : Line) → Contains pulled.fetched line → is_refused line.outcome ≡ true → ⊥
  fetched_clean remote pulled done line among refused =
      pull_none pair.own pair.peer remote run.moment.now (apart_pair pair) old run.end (in_time run.moment) (sound pair.own own) (sound pair.peer peer) alike pulled done (flat pair.peer peer) line among refused

  pub pull_fetch_clean : (remote : RemoteName) → asked_of run.words ≡ asked.Exchange (record { pair = pair; command = Pull remote })
      → (pulled : Pulled) × PullAnswers pair.own pair.peer remote run.moment.now old run.end (Ok pulled) × (run.after ≡ run.before ++ (answer_of_pull pulled).text)
      × ((line : Line) → Contains pulled.fetched line → is_refused line.outcome ≡ true → ⊥)
  pull_fetch_clean remote asks =
      let told = pull_tells call old run.end run.before run.after run.status pair refl prints remote asks run.answers has in
      (told.0, told.1, told.2, fetched_clean remote told.0 told.1)

  pub push_clean : asked_of run.words ≡ asked.Exchange (record { pair = pair; command = Push })
      → (lines : List Line) × PushAnswers pair.own pair.peer old run.end (Ok lines) × (run.after ≡ run.before ++ lines_text_of lines)
      × ((line : Line) → Contains lines line → is_refused line.outcome ≡ true → (other : Name) × (line.outcome ≡ copy.NotForward other))
  push_clean asks =
      let told = push_tells call old run.end run.before run.after run.status pair refl prints asks run.answers has in (
        told.0,
        told.1,
        told.2,
        λ line among refused. push_beside pair.own pair.peer (apart_pair pair) old run.end (sound pair.own own) (sound pair.peer peer) alike told.0 told.1 (flat pair.own own) line among refused,
      )
