-- A command in one folder is refused exactly where the cause of its refusal holds.
use Rattle.std.proofs.Common.{◌≡◌, inl, inr, ℕ, zero, suc, Bool, true, false, IsTrue, List, [], ◌∷◌, Some, None, Result, Ok, Err, if◌then◌else◌, refl, sym, ◌∙◌, ap, subst}
use Rattle.gb_text.specs.Folder.{joined}
use Rattle.gb_text.specs.declared.id.Id.{Id}
use Rattle.gb_store.specs.Files.{Files, History, files_of}
use Rattle.ref_store.specs.Refs.{packed_place, packed_reads}
use Rattle.repo_state.specs.Answers.{HasBadPerson}
use Rattle.repo_state.specs.Bugs.{IsDamagedBug}
use Rattle.repo_state.specs.Finds.{Finds, One}
use Rattle.repo_state.specs.Sides.{ref_place}
use Rattle.repo_state.specs.declared.side.Side.TheVariants as side
use Rattle.repo_state.specs.declared.stop.FindStop.TheVariants as find
use Rattle.repo_state.specs.declared.stop.Missed.{Missed}
use Rattle.repo_state.specs.declared.stop.Missed.TheVariants as missed
use Rattle.repo_state.specs.declared.stop.ReadStop.TheVariants as read
use Rattle.repo_state.proofs.BugLemmas.{bug_not_damaged}
use Rattle.repo_state.proofs.FoundLemmas.{finds_not_both, finds_not_many, finds_the_same}
use Rattle.repo_steps.proofs.ClearLemmas.{never_refused}
use Rattle.repo_steps.specs.Stops.{of_missed}
use Rattle.repo_steps.specs.declared.env.Env.{Env}
use Rattle.repo_steps.specs.declared.refusal.Refusal.{Refusal}
use Rattle.repo_steps.specs.declared.refusal.Refusal.TheVariants as refusal
use Rattle.repo_steps.specs.declared.refusal.Stop.{Stop}
use Rattle.repo_steps.specs.declared.refusal.Stop.TheVariants as stop
use Rattle.repo_view.specs.Log.{LogAnswers}
use Rattle.repo_view.specs.Shown.{ShowAnswers, UsersAnswers}
use Rattle.repo_view.proofs.LawLemmas.{log_not_missed}
use Rattle.repo_view.proofs.MissedLemmas.{one_log_missed, one_show_missed}
use Rattle.repo_view.proofs.PeopleLemmas.{no_bad_among, one_bad_person, user_not_bad}
use Rattle.repo_view.proofs.ShownLemmas.{show_not_missed}
use Rattle.bug_run.specs.Answer.{Answer}
use Rattle.bug_run.specs.Looks.{Guarded, first_unread}
use Rattle.bug_run.specs.Printed.{IsTold, Printed}
use Rattle.bug_run.specs.Run.{Call, CommandAnswers, RunAnswers, env_at, status_for, status_of, text_of}
use Rattle.bug_run.specs.declared.status.Refused.TheVariants.{ByCommand}
use Rattle.bug_run.specs.declared.status.Status.{Status}
use Rattle.bug_run.specs.declared.status.Status.TheVariants as status
use Rattle.bug_run.proofs.PackLemmas.{one_pack_refusal, pack_not_refused}
use Rattle.bug_run.proofs.WordLemmas.{answered, printed_told}
use Rattle.words.specs.declared.words.Asked.TheVariants as asked
use Rattle.words.specs.declared.words.Command.{Command}
use Rattle.words.specs.declared.words.Command.TheVariants.{Edit, Log, PackRefs, Show, Users}
use Rattle.words.specs.declared.words.Request.{Request}
use Rattle.refusal_causes.specs.Alike.{AreAlike}
use Rattle.refusal_causes.specs.Causes.{CommandCause, IsRefusedSo, LogCause, LooksFirst, RequestCause, ShowCause, UsersCause}
use Rattle.refusal_causes.proofs.SoleLemmas.{edits_alike}

-- ---- what was told

-- a run that a command refused gave that refusal
pub refused_was : (tells takes : Bool) (before after : List ℕ) (result : Result Answer Stop) (r : Refusal) → Printed tells takes (text_of result) (status_of result) before after (status.Refused (ByCommand r))
    → result ≡ Err (stop.Refused r)
refused_was tells takes before after (Ok said) r (inl h) = absurd (each said.refused h.0)
  where
    each : (n : ℕ) → status.Refused (ByCommand r) ≡ status_for n → ⊥
    each zero e = cc e
    each (suc n) e = cc e
refused_was tells takes before after (Err stop.Memory) r (inl h) = absurd (cc (h.0))
refused_was tells takes before after (Err stop.Disk) r (inl h) = absurd (cc (h.0))
refused_was tells takes before after (Err (stop.Refused s)) r (inl h) = let same : r ≡ s = cc (h.0) in ap (λ (x : Refusal). Err (stop.Refused x)) (sym same)
refused_was tells takes before after result r (inr (inl h)) = absurd (cc (h.0))
refused_was tells takes before after result r (inr (inr h)) = absurd (cc (h.0))

-- what is told of an answer that is not done, and whose refusal is so
pub refused_told : (IsSo : Refusal → Type 0) (result : Result Answer Stop) (answer : Status) → ((said : Answer) → result ≡ Ok said → ⊥) → ((r : Refusal) → result ≡ Err (stop.Refused r) → IsSo r)
    → IsTold (status_of result) answer → IsRefusedSo IsSo answer
refused_told IsSo result answer never so (inr (inl fault)) = inr (inr (inr fault))
refused_told IsSo result answer never so (inr (inr memory)) = inr (inl memory)
refused_told IsSo (Ok said) answer never so (inl is) = absurd (never said refl)
refused_told IsSo (Err stop.Memory) answer never so (inl is) = inr (inl is)
refused_told IsSo (Err stop.Disk) answer never so (inl is) = inr (inr (inl is))
refused_told IsSo (Err (stop.Refused r)) answer never so (inl is) = inl (r, is, so r refl)

-- ---- the packed refs

module _ (files : Files) (folder : List ℕ) where
  pub unread_first : packed_reads files folder ≡ false → first_unread files (folder ∷ []) ≡ Some folder
  unread_first unread = ap (λ (b : Bool). if b then None else Some folder) unread

  first_read : first_unread files (folder ∷ []) ≡ None → packed_reads files folder ≡ true
  first_read none = by (packed_reads files folder) refl none
    where
      by : (b : Bool) → packed_reads files folder ≡ b → (if b then None else Some folder) ≡ None → packed_reads files folder ≡ true
      by true at none = at
      by false at none = absurd (cc none)

  first_is : (at : List ℕ) → first_unread files (folder ∷ []) ≡ Some at → (packed_reads files folder ≡ false) × (at ≡ folder)
  first_is at some = by (packed_reads files folder) refl some
    where
      by : (b : Bool) → packed_reads files folder ≡ b → (if b then None else Some folder) ≡ Some at → (packed_reads files folder ≡ false) × (at ≡ folder)
      by true is some = absurd (cc some)
      by false is some = (is, let same : folder ≡ at = cc some in sym same)

  module _ {A : Type 0} (Answers : Result A Stop → Type 0) (Cause : Refusal → Type 0) (old new : History) where
    -- a refusal behind a look has its cause, if one of what is done has it
    pub looked_cause : ((r : Refusal) → Answers (Err (stop.Refused r)) → Cause r) → (r : Refusal) → Guarded (first_unread files (folder ∷ [])) Answers old new (Err (stop.Refused r)) → LooksFirst files folder Cause r
    looked_cause causes r (inl ((at, first, told), same)) =
        let is = first_is at first in
        inl (is.0, told ∙ ap (λ (place : List ℕ). refusal.Damaged (joined place packed_place)) is.1)
    looked_cause causes r (inr (none, answers)) = inr (first_read none, causes r answers)

    -- where a cause holds nothing is done
    pub looked_never : ((r : Refusal) (said : A) → Cause r → Answers (Ok said) → ⊥) → (r : Refusal) → LooksFirst files folder Cause r → (said : A) → Guarded (first_unread files (folder ∷ [])) Answers old new (Ok said) → ⊥
    looked_never never r cause said (inl unbegun) = unbegun.0
    looked_never never r (inl unread) said (inr (none, answers)) = let e : Some folder ≡ None = sym (unread_first unread.0) ∙ none in absurd (cc e)
    looked_never never r (inr cause) said (inr (none, answers)) = never r said cause.1 answers

    -- and the refusal that is told is alike
    pub looked_alike : ((r s : Refusal) → Cause r → Answers (Err (stop.Refused s)) → AreAlike r s) → (r s : Refusal) → LooksFirst files folder Cause r
        → Guarded (first_unread files (folder ∷ [])) Answers old new (Err (stop.Refused s)) → AreAlike r s
    looked_alike alike r s (inl unread) (inl ((at, first, told), same)) =
        inl (unread.1 ∙ sym (told ∙ ap (λ (place : List ℕ). refusal.Damaged (joined place packed_place)) (first_is at first).1))
    looked_alike alike r s (inr cause) (inl ((at, first, told), same)) = let e : true ≡ false = sym cause.0 ∙ (first_is at first).0 in absurd (cc e)
    looked_alike alike r s (inl unread) (inr (none, answers)) = let e : Some folder ≡ None = sym (unread_first unread.0) ∙ none in absurd (cc e)
    looked_alike alike r s (inr cause) (inr (none, answers)) = alike r s cause.1 answers

-- ---- commands that read

module _ (files : Files) (folder : List ℕ) where
  users_cause : (path : List ℕ) (r : Refusal) → r ≡ refusal.Damaged path → UsersAnswers files folder (Err (read.Damaged path)) → UsersCause files folder r
  users_cause path r told (inl bad) = (path, told, inl bad)
  users_cause path r told (inr (people, are, bad)) = (path, told, inr ((λ other h. no_bad_among files folder other people are h), bad))

  users_never : (r : Refusal) (text : List ℕ) → UsersCause files folder r → UsersAnswers files folder (Ok text) → ⊥
  users_never r text (path, told, inl bad) shown = no_bad_among files folder path shown.0 shown.1 bad
  users_never r text (path, told, inr (none, bad)) shown = user_not_bad files folder path shown.2 shown.3 bad

  users_one : (r s : Refusal) (at : List ℕ) → UsersCause files folder r → s ≡ refusal.Damaged at → UsersAnswers files folder (Err (read.Damaged at)) → r ≡ s
  users_one r s at (path, told, inl bad) also (inl other) = told ∙ ap refusal.Damaged (one_bad_person files folder path at bad other) ∙ sym also
  users_one r s at (path, told, inl bad) also (inr (people, are, other)) = absurd (no_bad_among files folder path people are bad)
  users_one r s at (path, told, inr (none, bad)) also (inl other) = absurd (none at other)
  users_one r s at (path, told, inr (none, bad)) also (inr (people, are, other)) = told ∙ ap refusal.Damaged (bad.0 ∙ sym other.0) ∙ sym also

  module _ (word : List ℕ) where
    -- ---- `log`

    log_cause : (why : Missed) (r : Refusal) → r ≡ of_missed why → LogAnswers files folder word (Err (find.Missed why)) → LogCause files folder word r
    log_cause missed.NotFound r told is = inl (missed.NotFound, is, told)
    log_cause (missed.Ambiguous least next) r told is = inl (missed.Ambiguous least next, is, told)
    log_cause (missed.Damaged path) r told (id, found, at, wrong) = inr (id, found, wrong, told ∙ ap refusal.Damaged at)

    -- what a cause answers
    log_missed : (r : Refusal) → LogCause files folder word r → (why : Missed) × (r ≡ of_missed why) × LogAnswers files folder word (Err (find.Missed why))
    log_missed r (inl (missed.NotFound, finds, told)) = (missed.NotFound, told, finds)
    log_missed r (inl (missed.Ambiguous least next, finds, told)) = (missed.Ambiguous least next, told, finds)
    log_missed r (inl (missed.Damaged path, finds, told)) = absurd finds
    log_missed r (inr (id, found, wrong, told)) = (missed.Damaged (joined folder (ref_place side.Bugs id)), told, (id, found, refl, wrong))

    -- ---- `show`

    show_cause : (why : Missed) (r : Refusal) → r ≡ of_missed why → ShowAnswers files folder word (Err (find.Missed why)) → ShowCause files folder word r
    show_cause missed.NotFound r told is = inl (missed.NotFound, is, told)
    show_cause (missed.Ambiguous least next) r told is = inl (missed.Ambiguous least next, is, told)
    show_cause (missed.Damaged path) r told (inl (id, found, at, wrong)) = inr (inl (id, found, wrong, told ∙ ap refusal.Damaged at))
    show_cause (missed.Damaged path) r told (inr (bug, finds, entity, is, bad)) =
        inr (inr (bug.id, finds.found, (λ wrong. bug_not_damaged files folder word bug entity bug.id finds is finds.found wrong), (path, bad, told)))

    show_never : (r : Refusal) (text : List ℕ) → ShowCause files folder word r → ShowAnswers files folder word (Ok text) → ⊥
    show_never r text (inl (missed.NotFound, finds, told)) shown = show_not_missed files folder word text missed.NotFound shown finds
    show_never r text (inl (missed.Ambiguous least next, finds, told)) shown = show_not_missed files folder word text (missed.Ambiguous least next) shown finds
    show_never r text (inl (missed.Damaged path, finds, told)) shown = finds
    show_never r text (inr (inl (id, found, wrong, told))) shown =
        show_not_missed files folder word text (missed.Damaged (joined folder (ref_place side.Bugs id))) shown (inl (id, found, refl, wrong))
    show_never r text (inr (inr (id, found, whole, (path, bad, told)))) shown = no_bad_among files folder path shown.2.people shown.2.are_people bad

    show_one : (why other : Missed) → ShowAnswers files folder word (Err (find.Missed why)) → ShowAnswers files folder word (Err (find.Missed other)) → of_missed why ≡ of_missed other
    show_one why other here there = ap of_missed (one_show_missed files folder word why other here there)

    -- where the bug is whole and a person is damaged, that person is told
    person_one : (id : Id) (path : List ℕ) (other : Missed) → Finds files folder side.Bugs word (One id) → (IsDamagedBug files folder id → ⊥) → HasBadPerson files folder path
        → ShowAnswers files folder word (Err (find.Missed other)) → refusal.Damaged path ≡ of_missed other
    person_one id path missed.NotFound found whole bad is = absurd (finds_not_both id found is)
    person_one id path (missed.Ambiguous least next) found whole bad is = absurd (finds_not_many id least next found is)
    person_one id path (missed.Damaged at) found whole bad (inl (mine, also, place, wrong)) = absurd (whole (subst (IsDamagedBug files folder) (finds_the_same mine id also found) wrong))
    person_one id path (missed.Damaged at) found whole bad (inr (bug, finds, entity, is, other)) = ap refusal.Damaged (one_bad_person files folder path at bad other)

    show_same : (r s : Refusal) (other : Missed) → ShowCause files folder word r → s ≡ of_missed other → ShowAnswers files folder word (Err (find.Missed other)) → r ≡ s
    show_same r s other (inl (missed.NotFound, finds, told)) also is = told ∙ show_one missed.NotFound other finds is ∙ sym also
    show_same r s other (inl (missed.Ambiguous least next, finds, told)) also is = told ∙ show_one (missed.Ambiguous least next) other finds is ∙ sym also
    show_same r s other (inl (missed.Damaged path, finds, told)) also is = absurd finds
    show_same r s other (inr (inl (id, found, wrong, told))) also is =
        told ∙ show_one (missed.Damaged (joined folder (ref_place side.Bugs id))) other (inl (id, found, refl, wrong)) is ∙ sym also
    show_same r s other (inr (inr (id, found, whole, (path, bad, told)))) also is = told ∙ person_one id path other found whole bad is ∙ sym also

-- ---- a command

module _ (env : Env) (old new : History) where
  command_cause : (command : Command) (r : Refusal) → CommandAnswers env command old new (Err (stop.Refused r)) → CommandCause env command old r
  command_cause Users r ((path, is, told), same) = users_cause (files_of old) env.folder path r told is
  command_cause (Show word) r ((why, is, told), same) = show_cause (files_of old) env.folder word why r told is
  command_cause (Log word) r ((why, is, told), same) = log_cause (files_of old) env.folder word why r told is
  command_cause (Edit edit) r is = (is.0, is.1.0)
  command_cause PackRefs r is = is.1

  command_never : (command : Command) (r : Refusal) (said : Answer) → CommandCause env command old r → CommandAnswers env command old new (Ok said) → ⊥
  command_never Users r said cause done = users_never (files_of old) env.folder r said.text cause done.0.0
  command_never (Show word) r said cause done = show_never (files_of old) env.folder word r said.text cause done.0.0
  command_never (Log word) r said cause done =
      let m = log_missed (files_of old) env.folder word r cause in
      log_not_missed (files_of old) env.folder word said.text m.0 done.0.0 m.2
  command_never (Edit edit) r said cause done = never_refused env edit old r ((done.1.0), done.1.1.may) cause
  command_never PackRefs r said cause done = pack_not_refused env.folder old new old said r done (refl, cause)

  command_alike : (command : Command) (r s : Refusal) → CommandCause env command old r → CommandAnswers env command old new (Err (stop.Refused s)) → AreAlike r s
  command_alike Users r s cause ((path, is, told), same) = inl (users_one (files_of old) env.folder r s path cause told is)
  command_alike (Show word) r s cause ((why, is, told), same) = inl (show_same (files_of old) env.folder word r s why cause told is)
  command_alike (Log word) r s cause ((why, is, told), same) =
      let m = log_missed (files_of old) env.folder word r cause in
      inl (m.1 ∙ ap of_missed (one_log_missed (files_of old) env.folder word m.0 why m.2 is) ∙ sym told)
  command_alike (Edit edit) r s cause is = edits_alike env edit old r s cause (is.0, is.1.0)
  command_alike PackRefs r s cause is = inl (one_pack_refusal env.folder old old old new r s refl (refl, cause) is)

-- ---- a run

pub request_cause : (call : Call) (old new : History) (before after : List ℕ) (request : Request) (r : Refusal) → IsTrue call.store_tells → call.asked ≡ asked.Request request
    → RunAnswers call old new before after (status.Refused (ByCommand r)) → RequestCause (env_at call.moment request.folder) request.command old r
request_cause call old new before after request r tells asks is =
    let a = answered call request old new before after (status.Refused (ByCommand r)) asks is in
    let env = env_at call.moment request.folder in
    let Answers = CommandAnswers env request.command old new in
    let was = refused_was call.sink_tells call.takes_memory before after a.result r a.printed in
    looked_cause (files_of old) request.folder Answers (CommandCause env request.command old) old new (command_cause env old new request.command) r
    (subst (Guarded (first_unread (files_of old) (request.folder ∷ [])) Answers old new) was (a.done tells))

pub request_refused : (call : Call) (old new : History) (before after : List ℕ) (answer : Status) (request : Request) (r : Refusal) → IsTrue call.store_tells → call.asked ≡ asked.Request request
    → RequestCause (env_at call.moment request.folder) request.command old r → RunAnswers call old new before after answer → IsRefusedSo (AreAlike r) answer
request_refused call old new before after answer request r tells asks cause is =
    let a = answered call request old new before after answer asks is in
    let env = env_at call.moment request.folder in
    let Answers = CommandAnswers env request.command old new in
    let Cause = CommandCause env request.command old in
    let Guards = Guarded (first_unread (files_of old) (request.folder ∷ [])) Answers old new in
    let told = printed_told call (text_of a.result) before after (status_of a.result) answer a.printed in
    refused_told (AreAlike r) a.result answer
    (λ said e. looked_never (files_of old) request.folder Answers Cause old new (command_never env old new request.command) r cause said (subst Guards e (a.done tells)))
    (λ s e. looked_alike (files_of old) request.folder Answers Cause old new (command_alike env old new request.command) r s cause (subst Guards e (a.done tells))) told
