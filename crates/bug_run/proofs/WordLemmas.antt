-- What the words alone decide of an answer.
use Rattle.std.proofs.Common.{◌≡◌, inl, inr, ℕ, zero, suc, List, Result, Ok, Err, refl, sym, ap, subst}
use Rattle.gb_store.specs.Files.{History}
use Rattle.repo_steps.specs.declared.refusal.Stop.{Stop}
use Rattle.repo_steps.specs.declared.refusal.Stop.TheVariants as stop
use Rattle.bug_run.specs.Printed.{IsTold, Printed}
use Rattle.bug_run.specs.Refusals.{refusal_line, usage_text}
use Rattle.bug_run.specs.Run.{AskedAnswers, Call, MergeRequestAnswers, PeerRequestAnswers, PrintedAnswer, RequestAnswers, RunAnswers, status_for, status_of}
use Rattle.bug_run.specs.Answer.{Answer}
use Rattle.bug_run.specs.declared.status.Status.{Status}
use Rattle.bug_run.specs.declared.status.Status.TheVariants as status
use Rattle.bug_run.specs.declared.status.Refused.TheVariants.{ByWords}
use Rattle.words.specs.declared.words.Asked.{Asked}
use Rattle.words.specs.declared.words.Asked.TheVariants as asked
use Rattle.words.specs.declared.words.BadWord.{BadWord}
use Rattle.words.specs.declared.words.MergeRequest.{MergeRequest}
use Rattle.words.specs.declared.words.PeerRequest.{PeerRequest}
use Rattle.words.specs.declared.words.Request.{Request}

-- what was printed of a text tells its status
pub printed_told : (call : Call) (text before after : List ℕ) (told answer : Status) → Printed call.sink_tells call.takes_memory text told before after answer → IsTold told answer
printed_told call text before after told answer (inl h) = inl h.0
printed_told call text before after told answer (inr (inl h)) = inr (inl h.0)
printed_told call text before after told answer (inr (inr h)) = inr (inr h.0)

-- the status of a command is none of those that the arguments or the sink decide
pub never_by_words : (result : Result Answer Stop) → (status_of result ≡ status.Usage → ⊥) × ((bad : BadWord) → status_of result ≡ status.Refused (ByWords bad) → ⊥) × (status_of result ≡ status.OutFault → ⊥)
never_by_words (Ok said) = each said.refused
  where
    each : (n : ℕ) → (status_for n ≡ status.Usage → ⊥) × ((bad : BadWord) → status_for n ≡ status.Refused (ByWords bad) → ⊥) × (status_for n ≡ status.OutFault → ⊥)
    each zero = ((λ e. cc e), (λ bad e. cc e), (λ e. cc e))
    each (suc n) = ((λ e. cc e), (λ bad e. cc e), (λ e. cc e))
never_by_words (Err stop.Memory) = ((λ e. cc e), (λ bad e. cc e), (λ e. cc e))
never_by_words (Err stop.Disk) = ((λ e. cc e), (λ bad e. cc e), (λ e. cc e))
never_by_words (Err (stop.Refused r)) = ((λ e. cc e), (λ bad e. cc e), (λ e. cc e))

-- ---- arguments that ask for nothing, or are refused

pub usage_told : (call : Call) (old new : History) (before after : List ℕ) (answer : Status) → call.asked ≡ asked.Nothing → RunAnswers call old new before after answer
    → IsTold status.Usage answer
usage_told call old new before after answer asks is =
    let answers : AskedAnswers asked.Nothing call old new before after answer = subst (λ (a : Asked). AskedAnswers a call old new before after answer) asks is in
    printed_told call usage_text before after status.Usage answer answers.1

pub refusal_told : (call : Call) (old new : History) (before after : List ℕ) (answer : Status) (bad : BadWord) → call.asked ≡ asked.Refused bad → RunAnswers call old new before after answer
    → IsTold (status.Refused (ByWords bad)) answer
refusal_told call old new before after answer bad asks is =
    let answers : AskedAnswers (asked.Refused bad) call old new before after answer = subst (λ (a : Asked). AskedAnswers a call old new before after answer) asks is in
    printed_told call (refusal_line (ByWords bad)) before after (status.Refused (ByWords bad)) answer answers.1

pub usage_only : (call : Call) (old new : History) (before after : List ℕ) → RunAnswers call old new before after status.Usage → call.asked ≡ asked.Nothing
usage_only call old new before after is = each call.asked is
  where
    each : (a : Asked) → AskedAnswers a call old new before after status.Usage → a ≡ asked.Nothing
    each asked.Nothing h = refl
    each (asked.Refused bad) (same, inl printed) = absurd (cc (printed.0))
    each (asked.Refused bad) (same, inr (inl (fault, front))) = absurd (cc (fault))
    each (asked.Refused bad) (same, inr (inr (memory, front))) = absurd (cc (memory))
    each (asked.Request request) (result, done, inl printed) = absurd ((never_by_words result).0 (sym printed.0))
    each (asked.Request request) (result, done, inr (inl (fault, front))) = absurd (cc (fault))
    each (asked.Request request) (result, done, inr (inr (memory, front))) = absurd (cc (memory))
    each (asked.Exchange request) (result, done, inl printed) = absurd ((never_by_words result).0 (sym printed.0))
    each (asked.Exchange request) (result, done, inr (inl (fault, front))) = absurd (cc (fault))
    each (asked.Exchange request) (result, done, inr (inr (memory, front))) = absurd (cc (memory))
    each (asked.Merge request) (result, done, inl printed) = absurd ((never_by_words result).0 (sym printed.0))
    each (asked.Merge request) (result, done, inr (inl (fault, front))) = absurd (cc (fault))
    each (asked.Merge request) (result, done, inr (inr (memory, front))) = absurd (cc (memory))
    each (asked.List request) (result, done, inl printed) = absurd ((never_by_words result).0 (sym printed.0))
    each (asked.List request) (result, done, inr (inl (fault, front))) = absurd (cc (fault))
    each (asked.List request) (result, done, inr (inr (memory, front))) = absurd (cc (memory))

pub refusal_only : (call : Call) (old new : History) (before after : List ℕ) (bad : BadWord) → RunAnswers call old new before after (status.Refused (ByWords bad))
    → call.asked ≡ asked.Refused bad
refusal_only call old new before after bad is = each call.asked is
  where
    each : (a : Asked) → AskedAnswers a call old new before after (status.Refused (ByWords bad)) → a ≡ asked.Refused bad
    each asked.Nothing (same, inl printed) = absurd (cc (printed.0))
    each asked.Nothing (same, inr (inl (fault, front))) = absurd (cc (fault))
    each asked.Nothing (same, inr (inr (memory, front))) = absurd (cc (memory))
    each (asked.Refused other) (same, inl printed) = let told : other ≡ bad = let e = printed.0 in cc in ap (λ (b : BadWord). asked.Refused b) told
    each (asked.Refused other) (same, inr (inl (fault, front))) = absurd (cc (fault))
    each (asked.Refused other) (same, inr (inr (memory, front))) = absurd (cc (memory))
    each (asked.Request request) (result, done, inl printed) = absurd ((never_by_words result).1 bad (sym printed.0))
    each (asked.Request request) (result, done, inr (inl (fault, front))) = absurd (cc (fault))
    each (asked.Request request) (result, done, inr (inr (memory, front))) = absurd (cc (memory))
    each (asked.Exchange request) (result, done, inl printed) = absurd ((never_by_words result).1 bad (sym printed.0))
    each (asked.Exchange request) (result, done, inr (inl (fault, front))) = absurd (cc (fault))
    each (asked.Exchange request) (result, done, inr (inr (memory, front))) = absurd (cc (memory))
    each (asked.Merge request) (result, done, inl printed) = absurd ((never_by_words result).1 bad (sym printed.0))
    each (asked.Merge request) (result, done, inr (inl (fault, front))) = absurd (cc (fault))
    each (asked.Merge request) (result, done, inr (inr (memory, front))) = absurd (cc (memory))
    each (asked.List request) (result, done, inl printed) = absurd ((never_by_words result).1 bad (sym printed.0))
    each (asked.List request) (result, done, inr (inl (fault, front))) = absurd (cc (fault))
    each (asked.List request) (result, done, inr (inr (memory, front))) = absurd (cc (memory))

-- ---- arguments that ask for something

-- what was answered to them
pub record Answered (call : Call) (request : Request) (old new : History) (before after : List ℕ) (answer : Status) : Type 0 where
  pub result : Result Answer Stop
  pub done : RequestAnswers call.store_tells request call.moment old new result
  pub printed : PrintedAnswer call result before after answer

pub answered : (call : Call) (request : Request) (old new : History) (before after : List ℕ) (answer : Status) → call.asked ≡ asked.Request request
    → RunAnswers call old new before after answer → Answered call request old new before after answer
answered call request old new before after answer asks is =
    let some : AskedAnswers (asked.Request request) call old new before after answer = subst (λ (a : Asked). AskedAnswers a call old new before after answer) asks is in
    record { result = some.0; done = some.1; printed = some.2 }

-- the same of arguments that ask for an exchange
pub record Exchanged (call : Call) (request : PeerRequest) (old new : History) (before after : List ℕ) (answer : Status) : Type 0 where
  pub result : Result Answer Stop
  pub done : PeerRequestAnswers call.store_tells request call.moment old new result
  pub printed : PrintedAnswer call result before after answer

pub exchanged : (call : Call) (request : PeerRequest) (old new : History) (before after : List ℕ) (answer : Status) → call.asked ≡ asked.Exchange request
    → RunAnswers call old new before after answer → Exchanged call request old new before after answer
exchanged call request old new before after answer asks is =
    let some : AskedAnswers (asked.Exchange request) call old new before after answer = subst (λ (a : Asked). AskedAnswers a call old new before after answer) asks is in
    record { result = some.0; done = some.1; printed = some.2 }

-- and of those that ask for a merge
pub record Merged (call : Call) (request : MergeRequest) (old new : History) (before after : List ℕ) (answer : Status) : Type 0 where
  pub result : Result Answer Stop
  pub done : MergeRequestAnswers call.store_tells request call.moment old new result
  pub printed : PrintedAnswer call result before after answer

pub merged : (call : Call) (request : MergeRequest) (old new : History) (before after : List ℕ) (answer : Status) → call.asked ≡ asked.Merge request
    → RunAnswers call old new before after answer → Merged call request old new before after answer
merged call request old new before after answer asks is =
    let some : AskedAnswers (asked.Merge request) call old new before after answer = subst (λ (a : Asked). AskedAnswers a call old new before after answer) asks is in
    record { result = some.0; done = some.1; printed = some.2 }
