use Rattle.std.proofs.Common.{◌≡◌, rules, Some, Result, Err, refl, sym, ◌∙◌, ap, subst}
use Rattle.gb_text.specs.declared.id.Name.{Name}
use Rattle.git_object.specs.Views.{commit_seen}
use Rattle.object_store.specs.Held.{Objects, objects_after, text_at}
use Rattle.object_store.specs.Typed.{AnswersAs, as_commit}
use Rattle.object_store.specs.declared.fault.KindFault.{KindFault}
use Rattle.object_store.specs.declared.fault.KindFault.TheVariants as kind
use Rattle.commit_walk.specs.Answers.{CommitRefused, StepAnswers}
use Rattle.commit_walk.specs.Stops.{stop_of}
use Rattle.commit_walk.specs.declared.below.Met.{Met}
use Rattle.commit_walk.specs.declared.fault.WalkStop.{WalkStop}
use Rattle.commit_walk.proofs.below.meet.Goals as goal

refused : (objects : Objects) (name : Name) (f : KindFault) → AnswersAs as_commit objects name (Err f) → CommitRefused objects name (stop_of f)
refused objects name kind.Memory h = tt
refused objects name kind.Disk h = tt
refused objects name (kind.Missing n) h = h
refused objects name (kind.Damaged n) h = h
refused objects name (kind.Large n) h = h
refused objects name (kind.OtherKind n) h = h

pub returns-in_err-commit-clause-answers : goal.returns-in_err-commit-clause-answers
returns-in_err-commit-clause-answers g c = λ tells.
    let objects = objects_after (g.S.Store.history c.args.disk.now) c.args.folder.now in
    let at : text_at objects c.args.name.now ≡ Some c.as_slice.result.now = c.in_ok-text.ensures.answers tells ∙ ap Some (sym c.as_slice.ensures) in
    let f = c.in_err-commit.field-0.0 in
    let is : c.from_residual-in_err-commit.result ≡ Err (stop_of f) = search rules in
    subst (λ (r : Result Met WalkStop). StepAnswers objects c.args.name.now r) (sym is) (refused objects c.args.name.now f (c.in_err-commit.ensures.answers objects at))

pub returns-clause-answers : goal.returns-clause-answers
returns-clause-answers g c = λ tells.
    let objects = objects_after (g.S.Store.history c.args.disk.now) c.args.folder.now in
    let at : text_at objects c.args.name.now ≡ Some c.as_slice.result.now = c.in_ok-text.ensures.answers tells ∙ ap Some (sym c.as_slice.ensures) in
    record { commit = commit_seen c.in_ok-commit.commit; held = c.in_ok-commit.ensures.answers objects at; tree = refl; parents = refl }
