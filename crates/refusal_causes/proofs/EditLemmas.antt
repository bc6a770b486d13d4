-- An edit of a bug is refused for an argument that finds not one bug, for damage of the bug, and where it changes nothing.
use Rattle.std.proofs.Common.{◌≡◌, inl, inr, ℕ, true, IsTrue, List, Err, refl, sym, ◌∙◌, ap}
use Rattle.gb_text.specs.Folder.{joined}
use Rattle.gb_text.specs.declared.id.Id.{Id}
use Rattle.gb_text.specs.declared.id.Name.{Name}
use Rattle.gb_store.specs.Files.{History, files_of}
use Rattle.bug_edits.specs.EditTable.{edit_op}
use Rattle.bug_edits.specs.declared.edit.BugEdit.{BugEdit}
use Rattle.bug_edits.specs.declared.edit.NoChange.{NoChange}
use Rattle.ref_store.specs.Refs.{packed_reads}
use Rattle.repo_state.specs.Bugs.{FindsBug, HasBugFault}
use Rattle.repo_state.specs.Finds.{FindsNoHead}
use Rattle.repo_state.specs.Sides.{ref_place}
use Rattle.repo_state.specs.Users.{BadUser, NoUser, User, user_at}
use Rattle.repo_state.specs.declared.side.HeadEntry.{HeadEntry}
use Rattle.repo_state.specs.declared.side.Side.TheVariants as side
use Rattle.repo_state.specs.declared.stop.Missed.{Missed}
use Rattle.repo_state.specs.declared.stop.Missed.TheVariants as missed
use Rattle.repo_steps.specs.BugDoings.{HasBug, bug_says}
use Rattle.repo_steps.specs.Doings.{Refused}
use Rattle.repo_steps.specs.Stops.{of_missed, of_no_change}
use Rattle.repo_steps.specs.declared.env.Env.{Env}
use Rattle.repo_steps.specs.declared.refusal.Refusal.{Refusal}
use Rattle.repo_steps.specs.declared.refusal.Refusal.TheVariants as refusal
use Rattle.repo_steps.proofs.ReportLemmas.{edit_refused, no_bug_found, no_pick}
use Rattle.bug_edits.specs.declared.edit.NoChange.TheVariants as no_change
use Rattle.bug_run.specs.Run.{Call, RunAnswers, env_at}
use Rattle.bug_run.specs.declared.status.Refused.TheVariants.{ByCommand}
use Rattle.bug_run.specs.declared.status.Status.{Status}
use Rattle.bug_run.specs.declared.status.Status.TheVariants as status
use Rattle.words.specs.declared.edit.Edit.TheVariants as edit
use Rattle.words.specs.declared.words.Asked.TheVariants as asked
use Rattle.words.specs.declared.words.Command.TheVariants as ask
use Rattle.refusal_causes.specs.Alike.{AreAlike}
use Rattle.refusal_causes.specs.Causes.{IsRefusedOrFault, IsRefusedSo}
use Rattle.refusal_causes.proofs.RequestLemmas.{request_refused}

-- a refusal that tells no name that is taken is told itself
told_itself : (r : Refusal) (answer : Status) → ((name : Name) → r ≡ refusal.NameTaken name → ⊥) → IsRefusedSo (AreAlike r) answer → IsRefusedOrFault r answer
told_itself r answer no_name (inl (s, is, inl same)) = inl (is ∙ ap (λ (x : Refusal). status.Refused (ByCommand x)) (sym same))
told_itself r answer no_name (inl (s, is, inr (one, two, taken, other))) = absurd (no_name one taken)
told_itself r answer no_name (inr fault) = inr fault

missed_names_none : (why : Missed) (name : Name) → of_missed why ≡ refusal.NameTaken name → ⊥
missed_names_none missed.NotFound name e = cc e
missed_names_none (missed.Ambiguous least next) name e = cc e
missed_names_none (missed.Damaged path) name e = cc e

change_names_none : (why : NoChange) (name : Name) → of_no_change why ≡ refusal.NameTaken name → ⊥
change_names_none no_change.SameStatus name e = cc e
change_names_none no_change.NoLabelChange name e = cc e

module _ (env : Env) (old : History) (e : BugEdit) (word : List ℕ) (user : Id) (is_user : user_at (files_of old) env.folder ≡ User user) where
  good : user_at (files_of old) env.folder ≡ BadUser → ⊥
  good bad = cc (sym is_user ∙ bad)

  some : user_at (files_of old) env.folder ≡ NoUser → ⊥
  some none = cc (sym is_user ∙ none)

  damaged_refused : (bug : HeadEntry) → FindsBug (files_of old) env.folder word bug → HasBugFault (files_of old) env.folder bug
      → Refused env (edit.OfBug word e) old (refusal.Damaged (joined env.folder (ref_place side.Bugs bug.id)))
  damaged_refused bug finds fault =
      edit_refused env old e word bug (no_pick env).op (refusal.Damaged (joined env.folder (ref_place side.Bugs bug.id))) (inr (good, inr (some, inr (finds, inl (fault, refl)))))

  unchanged_refused : (bug : HasBug env.folder (files_of old) word) (why : NoChange) → edit_op env.moment e (bug_says bug.entity) ≡ Err why → Refused env (edit.OfBug word e) old (of_no_change why)
  unchanged_refused bug why is =
      edit_refused env old e word bug.bug (no_pick env).op (of_no_change why) (inr (good, inr (some, inr (bug.finds, inr ((bug.entity, bug.is), inl (bug, why, is, refl))))))

module _ (call : Call) (old new : History) (before after : List ℕ) (answer : Status) (folder : List ℕ) (e : BugEdit) (word : List ℕ) (user : Id) (tells : IsTrue call.store_tells)
    (asks : call.asked ≡ asked.Request (record { folder = folder; command = ask.Edit (edit.OfBug word e) })) (reads : packed_reads (files_of old) folder ≡ true)
    (is_user : user_at (files_of old) folder ≡ User user) where
  edit_told : (r : Refusal) → ((name : Name) → r ≡ refusal.NameTaken name → ⊥) → Refused (env_at call.moment folder) (edit.OfBug word e) old r → RunAnswers call old new before after answer → IsRefusedOrFault r answer
  edit_told r no_name refused is =
      told_itself r answer no_name (request_refused call old new before after answer (record { folder = folder; command = ask.Edit (edit.OfBug word e) }) r tells asks (inr (reads, refused)) is)

  pub missed_told : (why : Missed) → FindsNoHead (files_of old) folder side.Bugs word why → RunAnswers call old new before after answer → IsRefusedOrFault (of_missed why) answer
  missed_told why finds = edit_told (of_missed why) (missed_names_none why) (no_bug_found (env_at call.moment folder) old e word user why is_user finds)

  pub damaged_told : (bug : HeadEntry) → FindsBug (files_of old) folder word bug → HasBugFault (files_of old) folder bug → RunAnswers call old new before after answer
      → IsRefusedOrFault (refusal.Damaged (joined folder (ref_place side.Bugs bug.id))) answer
  damaged_told bug finds fault =
      edit_told (refusal.Damaged (joined folder (ref_place side.Bugs bug.id))) (λ name same. cc same) (damaged_refused (env_at call.moment folder) old e word user is_user bug finds fault)

  pub unchanged_told : (bug : HasBug folder (files_of old) word) (why : NoChange) → edit_op call.moment e (bug_says bug.entity) ≡ Err why → RunAnswers call old new before after answer
      → IsRefusedOrFault (of_no_change why) answer
  unchanged_told bug why is = edit_told (of_no_change why) (change_names_none why) (unchanged_refused (env_at call.moment folder) old e word user is_user bug why is)
