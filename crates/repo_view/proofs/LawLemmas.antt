-- A log has no fault, and is the only one.
use Rattle.std.proofs.Common.{◌≡◌, ℕ, List, [], ◌∷◌, Ok, Err, sym, ◌∙◌, ap, subst}
use Rattle.gb_text.specs.declared.id.Id.{Id}
use Rattle.gb_store.specs.Files.{Files}
use Rattle.object_store.specs.Held.{objects_in}
use Rattle.bug_ops.specs.Kind.{bug_kind}
use Rattle.dag_entity.specs.Faults.{EntityFaultHolds}
use Rattle.dag_entity.specs.declared.fault.EntityFault.{EntityFault}
use Rattle.repo_state.specs.declared.side.HeadEntry.{HeadEntry}
use Rattle.repo_state.specs.declared.stop.FindStop.TheVariants as stop
use Rattle.repo_state.specs.declared.stop.Missed.{Missed}
use Rattle.repo_state.specs.declared.stop.Missed.TheVariants as missed
use Rattle.repo_state.specs.Bugs.{AreLocal, FindsBug}
use Rattle.repo_state.proofs.BugLemmas.{bug_no_fault, bug_not_damaged, one_bug, one_order}
use Rattle.render.specs.Log.{log_text_of}
use Rattle.repo_view.specs.Log.{IsLog, LogAnswers}
use Rattle.repo_state.specs.Sound.{IsSound}
use Rattle.repo_state.proofs.FoundLemmas.{finds_not_both, finds_not_many}
use Rattle.repo_state.proofs.UndamagedLemmas.{no_bad_found}

-- a word has one log
pub one_log : (files : Files) (folder word one two : List ℕ) → LogAnswers files folder word (Ok one) → LogAnswers files folder word (Ok two) → one ≡ two
one_log files folder word one two first second =
    let bugs = one_bug files folder word second.0 first.0 second.1 first.1 in
    let log : IsLog files folder first.0 two = subst (λ (bug : HeadEntry). IsLog files folder bug two) bugs second.2 in
    let packs = one_order (objects_in files folder) ((first.0).name ∷ []) first.2.entity.packs log.entity.packs first.2.is.is.packs log.is.is.packs in
    first.2.lines ∙ ap log_text_of packs ∙ sym log.lines

-- a log has no fault
pub no_fault : (files : Files) (folder word text : List ℕ) (bug : HeadEntry) (authors : List Id) (fault : EntityFault) → LogAnswers files folder word (Ok text)
    → FindsBug files folder word bug → AreLocal files folder authors → EntityFaultHolds bug_kind (objects_in files folder) bug.id (bug.name ∷ []) authors fault → ⊥
no_fault files folder word text bug authors fault log finds locals holds =
    let is : IsLog files folder bug text = subst (λ (b : HeadEntry). IsLog files folder b text) (one_bug files folder word log.0 bug log.1 finds) log.2 in
    bug_no_fault files folder bug is.entity is.is (record { authors = authors; locals = locals; fault = fault; holds = holds })

-- in a sound folder no log is damaged
pub log_not_damaged : (files : Files) (folder word path : List ℕ) → IsSound folder files → LogAnswers files folder word (Err (stop.Missed (missed.Damaged path))) → ⊥
log_not_damaged files folder word path sound (id, found, at, wrong) = no_bad_found folder files sound word id found wrong

-- a bug that has a log is not missed
pub log_not_missed : (files : Files) (folder word text : List ℕ) (why : Missed) → LogAnswers files folder word (Ok text) → LogAnswers files folder word (Err (stop.Missed why)) → ⊥
log_not_missed files folder word text missed.NotFound log h = finds_not_both (log.0).id log.1.found h
log_not_missed files folder word text (missed.Ambiguous least next) log h = finds_not_many (log.0).id least next log.1.found h
log_not_missed files folder word text (missed.Damaged path) log h = bug_not_damaged files folder word log.0 log.2.entity h.0 log.1 log.2.is h.1 h.3
