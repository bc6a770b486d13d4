-- What a list of bugs answers and prints.
use Rattle.std.proofs.Common.{◌≡◌, ◌<◌, inl, inr, ℕ, IsTrue, List, [], ◌∷◌, ◌++◌, length, take, Result, Ok, Err, subst}
use Rattle.gb_store.specs.Files.{History, files_of}
use Rattle.gb_store.specs.Moments.{Wrote}
use Rattle.repo_lists.specs.Lists.{ListsBugs}
use Rattle.repo_lists.proofs.ListLemmas.{list_not_damaged, lists_bugs}
use Rattle.repo_state.specs.Sound.{IsSound}
use Rattle.repo_state.specs.Sound as part
use Rattle.repo_steps.specs.declared.refusal.Refusal.{Refusal}
use Rattle.repo_steps.specs.declared.refusal.Stop.{Stop}
use Rattle.repo_steps.specs.declared.refusal.Stop.TheVariants as stop
use Rattle.repo_writes.specs.Kinds.{IsRowWrite}
use Rattle.words.specs.declared.list.ListRequest.{ListRequest}
use Rattle.words.specs.declared.words.Asked.{Asked}
use Rattle.words.specs.declared.words.Asked.TheVariants as asked
use Rattle.bug_run.specs.Answer.{Answer}
use Rattle.bug_run.specs.Headline.{ListEnds}
use Rattle.bug_run.specs.Looks.{Guarded, first_unread}
use Rattle.bug_run.specs.Run.{AskedAnswers, Call, ListRequestAnswers, ListTold, PrintedAnswer, RunAnswers, status_of, text_of}
use Rattle.bug_run.specs.declared.status.Status.{Status}
use Rattle.bug_run.specs.declared.status.Status.TheVariants as status
use Rattle.bug_run.proofs.LookLemmas.{begun, look_done, not_begun}
use Rattle.bug_run.proofs.ServedLemmas.{IsServed, done_was, served_told}
use Rattle.bug_run.proofs.UsageLemmas.{cut_of}
use Rattle.bug_run.proofs.WordLemmas.{never_by_words, printed_told}

-- what was answered to arguments that ask for a list
pub record Listed (call : Call) (request : ListRequest) (old new : History) (before after : List ℕ) (answer : Status) : Type 0 where
  pub result : Result Answer Stop
  pub done : ListRequestAnswers call.store_tells request old new result
  pub printed : PrintedAnswer call result before after answer

pub listed : (call : Call) (request : ListRequest) (old new : History) (before after : List ℕ) (answer : Status) → call.asked ≡ asked.List request
    → RunAnswers call old new before after answer → Listed call request old new before after answer
listed call request old new before after answer asks is =
    let some : AskedAnswers (asked.List request) call old new before after answer = subst (λ (a : Asked). AskedAnswers a call old new before after answer) asks is in
    record { result = some.0; done = some.1; printed = some.2 }

-- ---- a sound folder

module _ (request : ListRequest) (old new : History) (sound : IsSound request.folder (files_of old)) where
  -- no list is refused
  not_refused : (r : Refusal) → ListTold request old new (Err (stop.Refused r)) → ⊥
  not_refused r ((path, is, told), rows) = list_not_damaged request.folder request.layout request.query old new sound path is

  -- and one that is done lists the bugs
  done_lists : (said : Answer) → ListTold request old new (Ok said) → ListsBugs (files_of old) request.folder request.layout request.query said.text
  done_lists said is = lists_bugs request.folder request.layout request.query old new sound said.text is.0.0

module _ (call : Call) (old new : History) (before after : List ℕ) (request : ListRequest) (tells : IsTrue call.store_tells) (asks : call.asked ≡ asked.List request)
    (sound : IsSound request.folder (files_of old)) where
  pub list_served : (answer : Status) → RunAnswers call old new before after answer → IsServed answer
  list_served answer is =
      let l = listed call request old new before after answer asks is in
      let told = printed_told call (text_of l.result) before after (status_of l.result) answer l.printed in
      elim (l.done tells) [
        | inl unbegun ↦ inr (not_begun (first_unread (files_of old) (request.folder ∷ [])) (look_done (files_of old) request.folder (sound part.Packed)) l.result answer unbegun.0 told)
        | inr answers ↦
            served_told l.result answer (λ said e. (subst (ListTold request old new) e answers.1).0.1) (λ r e. not_refused request old new sound r (subst (ListTold request old new) e answers.1)) told
      ]

  pub list_prints : IsTrue call.sink_tells → RunAnswers call old new before after status.Done
      → (text : List ℕ) × ListsBugs (files_of old) request.folder request.layout request.query text × (after ≡ before ++ text) × Wrote (IsRowWrite request.folder) old new
  list_prints prints is =
      let l = listed call request old new before after status.Done asks is in
      let was = done_was call.sink_tells call.takes_memory before after l.result l.printed in
      let first = first_unread (files_of old) (request.folder ∷ []) in
      let told : ListTold request old new (Ok was.0) = begun first (ListTold request old new) old new was.0 (subst (Guarded first (ListTold request old new) old new) was.1 (l.done tells)) in
      (was.0.text, done_lists request old new sound was.0 told, was.2 prints, told.1)

  pub list_ends : IsTrue call.sink_tells → (answer : Status) → RunAnswers call old new before after answer → ListEnds request old new before after answer
  list_ends prints answer is = by (list_served answer is)
    where
      by : IsServed answer → ListEnds request old new before after answer
      by (inl done) =
          let p = list_prints prints (subst (RunAnswers call old new before after) done is) in
          inl (done, record { text = p.0; lists = p.1; printed = p.2; rows = p.3 })
      by (inr fault) = inr fault

-- ---- the output fails

pub list_cut : (call : Call) (old new : History) (before after : List ℕ) (request : ListRequest) → call.asked ≡ asked.List request → RunAnswers call old new before after status.OutFault
    → (result : Result Answer Stop) × (count : ℕ) × ListRequestAnswers call.store_tells request old new result × (count < length (text_of result))
    × (IsTrue call.sink_tells → after ≡ before ++ take count (text_of result))
list_cut call old new before after request asks is =
    let l = listed call request old new before after status.OutFault asks is in
    let cut = cut_of call (text_of l.result) before after (status_of l.result) (never_by_words l.result).2 l.printed in
    (l.result, cut.0, l.done, cut.1, cut.2)
