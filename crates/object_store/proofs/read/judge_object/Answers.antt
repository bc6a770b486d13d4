use Rattle.std.proofs.Common.{◌≡◌, rules, None, Result, Err, refl, sym, ◌∙◌, ap, subst}
use Rattle.git_object.specs.declared.object.Object.{Object}
use Rattle.git_object.specs.Reading.{object_of}
use Rattle.object_store.specs.Held.{Answers}
use Rattle.object_store.specs.declared.fault.ObjFault.{ObjFault}
use Rattle.object_store.proofs.HeldLemmas.{IsDamaged-text}
use Rattle.object_store.proofs.read.judge_object.Goals as goal

pub returns-in_err-text-clause-answers : goal.returns-in_err-text-clause-answers
returns-in_err-text-clause-answers c = λ objects told.
    let is : c.from_residual.result ≡ Err c.in_err-text.field-0.0 = search rules in
    subst (λ (r : Result Object ObjFault). Answers objects c.args.name.now r) (sym is) (c.in_err-text.ensures.answers objects told)

pub returns-clause-answers : goal.returns-clause-answers
returns-clause-answers c = λ objects told.
    let none : object_of c.in_ok-text.text ≡ None = ap object_of (sym c.as_slice.ensures) ∙ (sym c.in_ok-object.ensures.value ∙ c.in-None.is) in
    (refl, IsDamaged-text objects c.args.name.now c.in_ok-text.text (c.in_ok-text.ensures.answers objects told) none)
