-- In a sound folder a command is done wherever nothing is a cause to refuse it; and what is printed of a bug.
use Rattle.std.proofs.Common.{◌≡◌, ◌⊎◌, inl, inr, ℕ, Bool, IsTrue, List, ◌++◌, [], ◌∷◌, Result, Ok, Err, refl, ◌∙◌, ap, subst}
use Rattle.gb_store.specs.Files.{Files, History, files_of}
use Rattle.repo_state.specs.Finds.{FindsNoId}
use Rattle.repo_state.specs.Sound.{IsSound}
use Rattle.repo_state.specs.Sound as part
use Rattle.repo_steps.specs.declared.env.Env.{Env}
use Rattle.repo_steps.specs.declared.refusal.Refusal.{Refusal}
use Rattle.repo_steps.specs.declared.refusal.Stop.{Stop}
use Rattle.repo_steps.specs.declared.refusal.Stop.TheVariants as stop
use Rattle.repo_state.specs.declared.side.Side.TheVariants as side
use Rattle.repo_state.specs.declared.stop.FindStop.TheVariants as find
use Rattle.repo_state.specs.declared.stop.Missed.{Missed}
use Rattle.repo_state.specs.declared.stop.Missed.TheVariants as missed
use Rattle.repo_view.specs.Log.{LogAnswers}
use Rattle.repo_view.specs.Shown.{ShowAnswers}
use Rattle.repo_view.proofs.LawLemmas.{log_not_damaged}
use Rattle.repo_view.proofs.ShownLemmas.{show_not_damaged, users_not_damaged}
use Rattle.bug_run.specs.Looks.{Guarded, first_unread}
use Rattle.bug_run.specs.Printed.{IsTold, Printed}
use Rattle.bug_run.specs.Run.{Call, CommandAnswers, RunAnswers, env_at, status_for, status_of, text_of}
use Rattle.bug_run.specs.Served.{HasCause, ShowsOperations}
use Rattle.bug_run.specs.Answer.{Answer}
use Rattle.bug_run.specs.declared.status.Status.{Status}
use Rattle.bug_run.specs.declared.status.Status.TheVariants as status
use Rattle.words.specs.declared.words.Asked.TheVariants as asked
use Rattle.words.specs.declared.words.Command.{Command}
use Rattle.words.specs.declared.words.Command.TheVariants.{Edit, Log, PackRefs, Show, Users}
use Rattle.words.specs.declared.words.Request.{Request}
use Rattle.bug_run.proofs.LookLemmas.{begun, look_done, not_begun}
use Rattle.bug_run.proofs.PackLemmas.{pack_served}
use Rattle.bug_run.proofs.WordLemmas.{answered, printed_told}

-- ---- commands that read

module _ (files : Files) (folder : List ℕ) (sound : IsSound folder files) where
  show_served : (word : List ℕ) → ((why : Missed) × FindsNoId files folder side.Bugs word why → ⊥) → (why : Missed) → ShowAnswers files folder word (Err (find.Missed why)) → ⊥
  show_served word finds missed.NotFound is = finds (missed.NotFound, is)
  show_served word finds (missed.Ambiguous least next) is = finds (missed.Ambiguous least next, is)
  show_served word finds (missed.Damaged path) is = show_not_damaged files folder word path sound is

  log_served : (word : List ℕ) → ((why : Missed) × FindsNoId files folder side.Bugs word why → ⊥) → (why : Missed) → LogAnswers files folder word (Err (find.Missed why)) → ⊥
  log_served word finds missed.NotFound is = finds (missed.NotFound, is)
  log_served word finds (missed.Ambiguous least next) is = finds (missed.Ambiguous least next, is)
  log_served word finds (missed.Damaged path) is = log_not_damaged files folder word path sound is

-- no command is refused
served : (env : Env) (command : Command) (old new : History) → IsSound env.folder (files_of old) → (HasCause env command old → ⊥) → (r : Refusal)
    → CommandAnswers env command old new (Err (stop.Refused r)) → ⊥
served env Users old new sound none r ((path, is, told), same) = users_not_damaged (files_of old) env.folder path sound is
served env (Show word) old new sound none r ((why, is, told), same) = show_served (files_of old) env.folder sound word none why is
served env (Log word) old new sound none r ((why, is, told), same) = log_served (files_of old) env.folder sound word none why is
served env (Edit edit) old new sound none r is = none (r, (is.0, is.1.0))
served env PackRefs old new sound none r is = pack_served env.folder old sound none r is.1

-- one that is done prints no line that is a refusal
no_line : (env : Env) (command : Command) (old new : History) (said : Answer) → CommandAnswers env command old new (Ok said) → said.refused ≡ 0
no_line env Users old new said is = is.0.1
no_line env (Show word) old new said is = is.0.1
no_line env (Log word) old new said is = is.0.1
no_line env (Edit edit) old new said is = ap (λ (s : Answer). s.refused) is.2
no_line env PackRefs old new said is = ap (λ (s : Answer). s.refused) is.2

-- ---- a run

-- a run in a sound folder, to which nothing is a cause, is done, but where a fault or memory keeps it from that
abbrev pub IsServed : Status → Type 0
IsServed answer = (answer ≡ status.Done) ⊎ ((answer ≡ status.Memory) ⊎ ((answer ≡ status.DiskFault) ⊎ (answer ≡ status.OutFault)))

-- what is told of an answer that is no refusal
pub served_told : (result : Result Answer Stop) (answer : Status) → ((said : Answer) → result ≡ Ok said → said.refused ≡ 0) → ((r : Refusal) → result ≡ Err (stop.Refused r) → ⊥)
    → IsTold (status_of result) answer → IsServed answer
served_told result answer plain taken (inr (inl fault)) = inr (inr (inr fault))
served_told result answer plain taken (inr (inr memory)) = inr (inl memory)
served_told (Ok said) answer plain taken (inl is) = inl (is ∙ ap status_for (plain said refl))
served_told (Err stop.Memory) answer plain taken (inl is) = inr (inl is)
served_told (Err stop.Disk) answer plain taken (inl is) = inr (inr (inl is))
served_told (Err (stop.Refused r)) answer plain taken (inl is) = absurd (taken r refl)

pub run_served : (call : Call) (old new : History) (before after : List ℕ) (answer : Status) (request : Request) → IsTrue call.store_tells
    → call.asked ≡ asked.Request request → IsSound request.folder (files_of old) → (HasCause (env_at call.moment request.folder) request.command old → ⊥)
    → RunAnswers call old new before after answer → IsServed answer
run_served call old new before after answer request tells asks sound none is =
    let a = answered call request old new before after answer asks is in
    let env = env_at call.moment request.folder in
    let told = printed_told call (text_of a.result) before after (status_of a.result) answer a.printed in
    elim (a.done tells) [
      | inl unbegun ↦ inr (not_begun (first_unread (files_of old) (request.folder ∷ [])) (look_done (files_of old) request.folder (sound part.Packed)) a.result answer unbegun.0 told)
      | inr answers ↦
          served_told a.result answer (λ said e. no_line env request.command old new said (subst (CommandAnswers env request.command old new) e answers.1))
          (λ r e. served env request.command old new sound none r (subst (CommandAnswers env request.command old new) e answers.1)) told
    ]

-- ---- a bug as it is shown

-- a run that is done answered a text, and printed all of it
pub done_was : (tells takes : Bool) (before after : List ℕ) (result : Result Answer Stop) → Printed tells takes (text_of result) (status_of result) before after status.Done
    → (said : Answer) × (result ≡ Ok said) × (IsTrue tells → after ≡ before ++ said.text)
done_was tells takes before after (Ok said) (inl h) = (said, refl, h.1)
done_was tells takes before after (Ok said) (inr (inl h)) = absurd (cc (h.0))
done_was tells takes before after (Ok said) (inr (inr h)) = absurd (cc (h.0))
done_was tells takes before after (Err stop.Memory) (inl h) = absurd (cc (h.0))
done_was tells takes before after (Err stop.Disk) (inl h) = absurd (cc (h.0))
done_was tells takes before after (Err (stop.Refused r)) (inl h) = absurd (cc (h.0))
done_was tells takes before after (Err s) (inr (inl h)) = absurd (cc (h.0))
done_was tells takes before after (Err s) (inr (inr h)) = absurd (cc (h.0))

-- what is done was begun
pub done_begun : (call : Call) (old new : History) (request : Request) (result : Result Answer Stop) (said : Answer) → result ≡ Ok said
    → Guarded (first_unread (files_of old) (request.folder ∷ [])) (CommandAnswers (env_at call.moment request.folder) request.command old new) old new result
    → CommandAnswers (env_at call.moment request.folder) request.command old new (Ok said)
done_begun call old new request result said is guarded =
    let first = first_unread (files_of old) (request.folder ∷ []) in
    let Answers = CommandAnswers (env_at call.moment request.folder) request.command old new in
    begun first Answers old new said (subst (Guarded first Answers old new) is guarded)

-- a run that shows a bug and is done prints it by its operations in order, and writes nothing
pub run_shows : (call : Call) (old new : History) (before after word folder : List ℕ) → IsTrue call.store_tells → IsTrue call.sink_tells
    → call.asked ≡ asked.Request (record { folder = folder; command = Show word }) → RunAnswers call old new before after status.Done
    → (text : List ℕ) × ShowsOperations (files_of old) folder word text × (after ≡ before ++ text) × (new ≡ old)
run_shows call old new before after word folder tells prints asks is =
    let a = answered call (record { folder = folder; command = Show word }) old new before after status.Done asks is in
    let was = done_was call.sink_tells call.takes_memory before after a.result a.printed in
    let answers = done_begun call old new (record { folder = folder; command = Show word }) a.result was.0 was.1 (a.done tells) in
    let shown = answers.0.0 in (
      was.0.text,
      record { bug = shown.0; finds = shown.1; ops = shown.2.ops; in_order = shown.2.are; people = shown.2.people; are_people = shown.2.are_people; shows = shown.2.is },
      was.2 prints,
      answers.1,
    )
