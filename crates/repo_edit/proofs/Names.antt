-- The names that most proofs here cite, passed on from one place. Declares nothing.
pub use Rattle.bug_edits.specs.Answers.{OpAnswers}
pub use Rattle.bug_edits.specs.NewOps.{noop_op, op_id}
pub use Rattle.identity.specs.declared.making.VersionPlan.{VersionPlan}
pub use Rattle.object_store.specs.declared.fault.PutFault.{PutFault}
pub use Rattle.repo_edit.specs.Adding.{AddsHead}
pub use Rattle.repo_edit.specs.Growing.{GrowingAnswers, GrownPlans, has_id, AuthorAnswers, CommentAnswers, Grows, EditPlans, SetPlans, growing_from}
pub use Rattle.repo_edit.specs.declared.growing.Growing.{Growing}
pub use Rattle.repo_edit.specs.declared.growing.GrowingComment.{GrowingComment}
pub use Rattle.repo_state.specs.Answers.{FindsUser}
pub use Rattle.repo_state.specs.Bugs.{BugRefused, FindsBug}
pub use Rattle.repo_state.specs.Finds.{FinderAnswers}
pub use Rattle.repo_state.specs.declared.stop.FindStop.{FindStop}
pub use Rattle.repo_state.specs.declared.stop.ReadStop.{ReadStop}
pub use Rattle.repo_steps.proofs.ReportLemmas.{no_pick, no_entry}
pub use Rattle.repo_steps.specs.Answers.{Plans}
pub use Rattle.repo_steps.specs.BugDoings.{begun_bug}
pub use Rattle.repo_steps.specs.Doings.{BugEditAnswers}
pub use Rattle.repo_steps.specs.Stops.{stop_of_put, stop_of_read, stop_of_find, stop_of_edit}
pub use Rattle.repo_steps.specs.declared.env.Env.{Env}
pub use Rattle.repo_steps.specs.declared.plan.Addition.{Addition}
pub use Rattle.repo_steps.specs.declared.plan.Plan.{Plan}
pub use Rattle.repo_steps.specs.declared.refusal.Refusal.{Refusal}
pub use Rattle.repo_steps.specs.declared.refusal.Stop.{Stop}
pub use Rattle.words.specs.declared.edit.Edit.TheVariants.{UserSet}
