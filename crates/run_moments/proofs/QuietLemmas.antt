-- Runs that read, and refused commands, write nothing; lists write rows alone.
use Rattle.std.proofs.Common.{◌≡◌, inl, inr, refl, sym, ◌∙◌, ap, subst, ℕ, zero, suc, IsTrue, Bool, List, [], ◌∷◌, Option, Result, Ok, Err}
use Rattle.gb_text.specs.declared.id.Id.{Id}
use Rattle.gb_store.specs.Files.{Files, History, files_of, written}
use Rattle.gb_store.specs.Moments.{AllMoments, Wrote}
use Rattle.gb_store.specs.declared.store.Change.{Change}
use Rattle.gb_store.proofs.FrameLemmas.{written-other}
use Rattle.gb_store.proofs.MomentLemmas.{AllMoments-from_Wrote, Wrote-none}
use Rattle.repo_steps.specs.declared.env.Env.{Env}
use Rattle.repo_steps.specs.declared.refusal.Refusal.{Refusal}
use Rattle.repo_steps.specs.declared.refusal.Stop.{Stop}
use Rattle.repo_steps.specs.declared.refusal.Stop.TheVariants as stop
use Rattle.repo_writes.specs.Kinds.{IsRowWrite}
use Rattle.words.specs.declared.words.Asked.{Asked}
use Rattle.words.specs.declared.words.Asked.TheVariants as asked
use Rattle.words.specs.declared.words.Command.{Command}
use Rattle.words.specs.declared.words.Command.TheVariants.{Edit, Log, PackRefs, Show, Users}
use Rattle.words.specs.declared.words.Request.{Request}
use Rattle.words.specs.declared.list.ListRequest.{ListRequest}
use Rattle.bug_run.specs.Answer.{Answer}
use Rattle.bug_run.specs.Looks.{Guarded, first_unread}
use Rattle.bug_run.specs.Printed.{Printed}
use Rattle.bug_run.specs.Run.{AskedAnswers, Call, CommandAnswers, RunAnswers, env_at, status_for, status_of, text_of}
use Rattle.bug_run.specs.declared.status.Refused.TheVariants.{ByCommand}
use Rattle.bug_run.specs.declared.status.Status.{Status}
use Rattle.bug_run.specs.declared.status.Status.TheVariants as status
use Rattle.bug_run.proofs.WordLemmas.{answered}
use Rattle.repo_state.specs.declared.side.Side.{Side}
use Rattle.ref_moments.specs.Once.{StaysSame}
use Rattle.ref_moments.proofs.ApartLemmas.{rows_stay}
use Rattle.run_moments.specs.Places.{AsksToRead, OnlyReads, SameButRows}

-- what keeps a command from beginning, or that it reads, keeps it from writing
guarded_same : (first : Option (List ℕ)) (Answers : Result Answer Stop → Type 0) (old new : History) (result : Result Answer Stop) → (Answers result → new ≡ old) → Guarded first Answers old new result → new ≡ old
guarded_same first Answers old new result same (inl unbegun) = unbegun.1
guarded_same first Answers old new result same (inr answers) = same answers.1

command_same : (env : Env) (command : Command) (old new : History) (result : Result Answer Stop) → OnlyReads command → CommandAnswers env command old new result → new ≡ old
command_same env Users old new result reads is = is.1
command_same env (Show bug) old new result reads is = is.1
command_same env (Log bug) old new result reads is = is.1
command_same env (Edit edit) old new result reads is = absurd reads
command_same env PackRefs old new result reads is = absurd reads

pub read_same : (asks : Asked) (call : Call) (old new : History) (before after : List ℕ) (answer : Status) → IsTrue call.store_tells → AsksToRead asks → AskedAnswers asks call old new before after answer → new ≡ old
read_same asked.Nothing call old new before after answer tells reads is = is.0 tells
read_same (asked.Refused bad) call old new before after answer tells reads is = is.0 tells
read_same (asked.Request request) call old new before after answer tells reads is =
    let env = env_at call.moment request.folder in
    guarded_same (first_unread (files_of old) (request.folder ∷ [])) (CommandAnswers env request.command old new) old new is.0 (command_same env request.command old new is.0 reads) (is.1 tells)
read_same (asked.Exchange request) call old new before after answer tells reads is = absurd reads
read_same (asked.Merge request) call old new before after answer tells reads is = absurd reads
read_same (asked.List request) call old new before after answer tells reads is = absurd reads

-- where nothing is written, the files are the same at the one moment that there is
pub same_files : (old new : History) → new ≡ old → AllMoments (λ files. files ≡ files_of old) old new
same_files old new same =
    AllMoments-from_Wrote (λ files change. ⊥) (λ files. files ≡ files_of old) (λ files change so_far none. absurd none) old new refl (Wrote-none (λ files change. ⊥) old new same)

-- ---- refused commands

-- a run that a command refused gave that refusal
refused_was : (tells takes : Bool) (before after : List ℕ) (result : Result Answer Stop) (r : Refusal) → Printed tells takes (text_of result) (status_of result) before after (status.Refused (ByCommand r))
    → result ≡ Err (stop.Refused r)
refused_was tells takes before after (Ok said) r (inl h) = absurd (each said.refused h.0)
  where
    each : (n : ℕ) → status.Refused (ByCommand r) ≡ status_for n → ⊥
    each zero e = cc e
    each (suc n) e = cc e
refused_was tells takes before after (Err stop.Memory) r (inl h) = absurd (cc (h.0))
refused_was tells takes before after (Err stop.Disk) r (inl h) = absurd (cc (h.0))
refused_was tells takes before after (Err (stop.Refused s)) r (inl h) = let same : r ≡ s = cc (h.0) in ap (λ (x : Refusal). Err (stop.Refused x)) (sym same)
refused_was tells takes before after result r (inr (inl h)) = absurd (cc (h.0))
refused_was tells takes before after result r (inr (inr h)) = absurd (cc (h.0))

refused_command : (env : Env) (command : Command) (old new : History) (r : Refusal) → CommandAnswers env command old new (Err (stop.Refused r)) → new ≡ old
refused_command env Users old new r is = is.1
refused_command env (Show bug) old new r is = is.1
refused_command env (Log bug) old new r is = is.1
refused_command env (Edit edit) old new r is = is.1.1
refused_command env PackRefs old new r is = is.0

pub refused_same : (call : Call) (old new : History) (before after : List ℕ) (request : Request) (r : Refusal) → IsTrue call.store_tells → call.asked ≡ asked.Request request
    → RunAnswers call old new before after (status.Refused (ByCommand r)) → new ≡ old
refused_same call old new before after request r tells asks is =
    let a = answered call request old new before after (status.Refused (ByCommand r)) asks is in
    let env = env_at call.moment request.folder in
    let first = first_unread (files_of old) (request.folder ∷ []) in
    let Answers = CommandAnswers env request.command old new in
    let was = refused_was call.sink_tells call.takes_memory before after a.result r a.printed in
    guarded_same first Answers old new (Err (stop.Refused r)) (refused_command env request.command old new r) (subst (Guarded first Answers old new) was (a.done tells))

-- ---- lists

rows_only : (folder : List ℕ) (old new : History) → Wrote (IsRowWrite folder) old new → AllMoments (SameButRows folder (files_of old)) old new
rows_only folder old new wrote =
    AllMoments-from_Wrote (IsRowWrite folder) (SameButRows folder (files_of old)) each old new (λ path other. refl) wrote
  where
    each : (files : Files) (change : Change) → SameButRows folder (files_of old) files → IsRowWrite folder files change → SameButRows folder (files_of old) (written files change)
    each files change so_far row path other =
        written-other files change path (λ same. other row.id row.is_id (sym same ∙ ap (λ (c : Change). c.path) row.write)) ∙ so_far path other

-- a list wrote rows alone
list_wrote : (call : Call) (old new : History) (before after : List ℕ) (answer : Status) (request : ListRequest) → IsTrue call.store_tells → call.asked ≡ asked.List request
    → RunAnswers call old new before after answer → Wrote (IsRowWrite request.folder) old new
list_wrote call old new before after answer request tells asks is =
    let some : AskedAnswers (asked.List request) call old new before after answer = subst (λ (a : Asked). AskedAnswers a call old new before after answer) asks is in
    elim (some.1 tells) [
      | inl unbegun ↦ Wrote-none (IsRowWrite request.folder) old new unbegun.1
      | inr listed ↦ listed.1.1
    ]

pub list_rows : (call : Call) (old new : History) (before after : List ℕ) (answer : Status) (request : ListRequest) → IsTrue call.store_tells → call.asked ≡ asked.List request
    → RunAnswers call old new before after answer → AllMoments (SameButRows request.folder (files_of old)) old new
list_rows call old new before after answer request tells asks is = rows_only request.folder old new (list_wrote call old new before after answer request tells asks is)

pub list_stays : (call : Call) (old new : History) (before after : List ℕ) (answer : Status) (request : ListRequest) → IsTrue call.store_tells → call.asked ≡ asked.List request
    → RunAnswers call old new before after answer → (of : Side) (id : Id) → StaysSame request.folder of id old new
list_stays call old new before after answer request tells asks is of id = rows_stay request.folder of id old new (list_wrote call old new before after answer request tells asks is)
