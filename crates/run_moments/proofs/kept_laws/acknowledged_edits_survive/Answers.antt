use Rattle.std.proofs.Common.{◌++◌, ◌∙◌, ap, sym, None, Some}
use Rattle.gb_text.specs.declared.id.Id.{Id}
use Rattle.gb_store.specs.Files.{files_of}
use Rattle.repo_state.specs.Sides.{head_at}
use Rattle.repo_state.specs.Users.{id_line}
use Rattle.repo_state.specs.declared.side.Side.TheVariants as side
use Rattle.repo_steps.specs.PeopleDoings.{new_made}
use Rattle.bug_run.specs.Run.{env_at}
use Rattle.words.specs.declared.edit.Edit.TheVariants as edits
use Rattle.bug_run.proofs.RunsLemmas.{runs_lose_nothing}
use Rattle.run_moments.proofs.EditLemmas.{added_to, did_edit, head_kept, person_id, user_id}
use Rattle.run_moments.proofs.SurviveLemmas.{operation_kept}
use Rattle.run_moments.proofs.kept_laws.acknowledged_edits_survive.Goals as goal

pub returns-clause-operations : goal.returns-clause-operations
returns-clause-operations c = λ folders call old mid new before after folder edit apart is tells prints asks adds run runs.
    let did = did_edit call folder edit old mid before after tells prints asks run in
    let to = added_to (env_at call.moment folder) edit (files_of old) (files_of mid) did.told adds did.steps in
    let kept = runs_lose_nothing folders apart folder is mid new runs in (
      did.told,
      to.bug,
      did.printed,
      to.is,
      operation_kept folder (files_of mid) (files_of new) kept to.bug did.told to.is_id to.has,
    )

pub returns-clause-person : goal.returns-clause-person
returns-clause-person c = λ folders call old mid new before after folder name email apart is tells prints asks run runs.
    let env = env_at call.moment folder in
    let made = new_made env name email None in
    let did = did_edit call folder (edits.UserNew name email) old mid before after tells prints asks run in
    let kept = runs_lose_nothing folders apart folder is mid new runs in
    let step = did.steps in (
      did.printed ∙ ap (λ (id : Id). before ++ id_line id) step.is_told,
      head_kept folder (files_of mid) (files_of new) kept side.Identities tt made.id (person_id env name email) made.head
          (ap (head_at (files_of mid) folder side.Identities) (sym step.is_told) ∙ step.head),
    )

pub returns-clause-version : goal.returns-clause-version
returns-clause-version c = λ folders call old mid new before after folder name email apart is tells prints asks run runs.
    let env = env_at call.moment folder in
    let did = did_edit call folder (edits.UserEdit name email) old mid before after tells prints asks run in
    let kept = runs_lose_nothing folders apart folder is mid new runs in
    let step = did.steps in (
      step.user,
      did.printed ∙ ap (λ (id : Id). before ++ id_line id) step.is_told,
      head_kept folder (files_of mid) (files_of new) kept side.Identities tt step.user.id (user_id folder (files_of old) step.user) (new_made env name email (Some step.user.head)).head step.head,
    )
