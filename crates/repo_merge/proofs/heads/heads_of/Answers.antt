use Rattle.std.proofs.Common.{rules, ◌≡◌, Some, Err, sym, subst}
use Rattle.gb_store.specs.Files.{files_of}
use Rattle.merge_steps.specs.Stops.{turn_of_read}
use Rattle.repo_merge.specs.Heads.{HeadsAnswers}
use Rattle.repo_merge.proofs.HeadsLemmas.{local_ends}
use Rattle.repo_merge.proofs.heads.heads_of.Goals as goal

pub returns-in_err-ours-clause-answers : goal.returns-in_err-ours-clause-answers
returns-in_err-ours-clause-answers c = λ local old here.
    let a = c.args in
    let why = c.in_err-ours.field-0.0 in
    let is : c.from_residual-in_err-ours.result ≡ Err (turn_of_read why) = search rules in
    let tracked : a.entity.now.head ≡ Some c.in_ok-theirs.theirs.name = search rules in
    subst (HeadsAnswers a.folder.now a.tracked.now local a.entity.now old) (sym is)
    (local_ends a.folder.now a.tracked.now local a.locals.now a.entity.now c.in_ok-theirs.theirs.name old why here.side tracked (c.in_err-ours.ensures.answers (files_of old) here.alike))
