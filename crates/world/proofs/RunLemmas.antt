-- What a run says of itself, where memory did not run out.
use Rattle.std.proofs.Common.{◌≡◌, ◌≢◌, inl, inr, ℕ, List, [], Some, Result, Ok, Err, subst}
use Rattle.std.specs.Prelude.{IfOk}
use Rattle.gb_text.specs.declared.id.Id.{Id}
use Rattle.gb_store.specs.Files.{History, files_of}
use Rattle.gb_store.specs.Moments.{WroteBy}
use Rattle.bug_edits.specs.declared.moment.Moment.{Moment}
use Rattle.bug_run.specs.Headline.{HeadlineHolds, IsFault, OwnIsSound}
use Rattle.bug_run.specs.Run.{RunAnswers, RunStaysSound, RunWrites}
use Rattle.bug_run.specs.declared.status.Status.{Status}
use Rattle.bug_run.specs.declared.status.Status.TheVariants as status
use Rattle.bug_run.proofs.WordLemmas.{usage_only}
use Rattle.words.specs.Words.{asked_of}
use Rattle.words.specs.declared.words.Asked.TheVariants as asked
use Rattle.world.proofs.WordLemmas.{event_asks}
use Rattle.world.specs.Plays.{EndsAs, EndsBy, HasBugs, IsAt, IsRun, MayEndAs, RunsWhole, call_with}
use Rattle.world.specs.declared.world.Ended.{Ended}
use Rattle.world.specs.declared.world.Ended.TheVariants.{Done, Refused, Skipped}
use Rattle.world_events.specs.Words.{words_of}
use Rattle.world_events.specs.declared.event.Event.{Event}

-- no fault is left
no_fault : (answer : Status) → answer ≢ status.Memory → (answer ≡ status.DiskFault → ⊥) → (answer ≡ status.OutFault → ⊥) → IsFault answer → ⊥
no_fault answer memory disk out (inl e) = memory e
no_fault answer memory disk out (inr (inl e)) = disk e
no_fault answer memory disk out (inr (inr e)) = out e

pub run_is : (words : List (List ℕ)) (moment : Moment) (old new : History) (before text : List ℕ) (answer : Status) → before ≡ []
    → RunAnswers (call_with words moment) old new before text answer
    → (OwnIsSound (asked_of words) (files_of old) → HeadlineHolds (asked_of words) moment old new before text answer)
    → RunStaysSound (asked_of words) old new
    → WroteBy (RunWrites (call_with words moment)) old new
    → answer ≢ status.Memory → (answer ≡ status.DiskFault → ⊥) → (answer ≡ status.OutFault → ⊥)
    → IsRun words moment old new text answer
run_is words moment old new before text answer empty answers headline sound wrote memory disk out = record {
  answers = subst (λ (b : List ℕ). RunAnswers (call_with words moment) old new b text answer) empty answers;
  headline = λ own. subst (λ (b : List ℕ). HeadlineHolds (asked_of words) moment old new b text answer) empty (headline own);
  sound = sound;
  wrote = wrote;
  reached = no_fault answer memory disk out;
}

-- ---- events

-- a run by which an event ends did not run out of memory
pub had_memory : (ended : Ended) (answer : Status) → MayEndAs ended answer → answer ≢ status.Memory
had_memory Done answer (inl ends) e = cc (ends, e)
had_memory Refused answer (inl ends) e = cc (ends.1, e)
had_memory Skipped answer (inl ends) e = ends
had_memory ended answer (inr ends) e = cc (ends.1, e)

pub ends_by : {E : Type 0} (r : Result Ended E) (words : List (List ℕ)) (moment : Moment) (old new : History) (text : List ℕ) (answer : Status)
    → IfOk r (λ ended. MayEndAs ended answer) → (answer ≢ status.Memory → IsRun words moment old new text answer) → IfOk r (EndsBy words moment old new)
ends_by (Ok ended) words moment old new text answer ends runs =
    record { text = text; answer = answer; runs = runs (had_memory ended answer ends); ends = ends }
ends_by (Err e) words moment old new text answer ends runs = ends

-- arguments that ask for something do not print the usage line
ends_as : (words : List (List ℕ)) (moment : Moment) (old new : History) (text : List ℕ) (answer : Status) (ended : Ended) → asked_of words ≢ asked.Nothing
    → IsRun words moment old new text answer → MayEndAs ended answer → EndsAs ended answer
ends_as words moment old new text answer ended asks runs (inl ends) = ends
ends_as words moment old new text answer ended asks runs (inr ends) =
    absurd (asks (usage_only (call_with words moment) old new [] text
    (subst (λ (s : Status). RunAnswers (call_with words moment) old new [] text s) ends.1 runs.answers)))

-- an event whose arguments are run
pub event_ran : {E : Type 0} (r : Result Ended E) (event : Event) (bugs : List Id) (words : List (List ℕ)) (moment : Moment) (old mid new : History)
    → HasBugs (files_of old) event.folder bugs → mid ≡ old → words_of event bugs ≡ Some words → IsAt event.now event.seed moment
    → IfOk r (EndsBy words moment mid new) → IfOk r (λ ended. RunsWhole (event, ended) old new)
event_ran (Ok ended) event bugs words moment old mid new has same are at ends =
    let by = subst (λ (h : History). EndsBy words moment h new ended) same ends in
    let asks = event_asks event bugs words (λ id contained. ((has.are.members id).0 contained).0) are in
    inr (record {
      bugs = bugs;
      has = has;
      words = words;
      are = are;
      moment = moment;
      at = at;
      text = by.text;
      answer = by.answer;
      runs = by.runs;
      ends = ends_as words moment old new by.text by.answer ended asks by.runs by.ends;
    })
event_ran (Err e) event bugs words moment old mid new has same are at ends = ends
