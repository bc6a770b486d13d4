use Rattle.std.proofs.Common.{◌≡◌, rules, List, ℕ, Some, None, option_and_then, Result, Err, refl, sym, ◌∙◌, ap, subst}
use Rattle.git_object.specs.Reading.{frame_of, object_of}
use Rattle.object_store.specs.Held.{AnswersRaw}
use Rattle.object_store.specs.declared.read.Raw.{Raw}
use Rattle.object_store.specs.declared.fault.ObjFault.{ObjFault}
use Rattle.object_store.proofs.HeldLemmas.{IsDamaged-text, is_none-None, is_some-Some}
use Rattle.object_store.proofs.read.judge.Goals as goal

pub returns-in_err-text-clause-answers : goal.returns-in_err-text-clause-answers
returns-in_err-text-clause-answers c = λ objects told.
    let is : c.from_residual.result ≡ Err c.in_err-text.field-0.0 = search rules in
    subst (λ (r : Result Raw ObjFault). AnswersRaw objects c.args.name.now r) (sym is) (c.in_err-text.ensures.answers objects told)

pub returns-then-is_none-clause-answers : goal.returns-then-is_none-clause-answers
returns-then-is_none-clause-answers c = λ objects told.
    let none : object_of c.in_ok-text.text ≡ None = ap object_of (sym c.as_slice.ensures) ∙ (sym c.in_ok-read.ensures.value ∙ is_none-None c.in_ok-read.field-0 c.if-is_none.ensures) in
    (refl, IsDamaged-text objects c.args.name.now c.in_ok-text.text (c.in_ok-text.ensures.answers objects told) none)

pub returns-in-Some-clause-answers : goal.returns-in-Some-clause-answers
returns-in-Some-clause-answers c = λ objects told.
    let at = c.in_ok-text.ensures.answers objects told in
    let some = is_some-Some c.in_ok-read.field-0 c.if-is_none.ensures in
    let object : object_of c.in_ok-text.text ≡ Some some.0 = ap object_of (sym c.as_slice.ensures) ∙ (sym c.in_ok-read.ensures.value ∙ some.1) in
    let content : Some (c.in-Some.frame.kind, c.in-Some.frame.content.now) ≡ Some (c.in-Some.frame.kind, c.in_ok-from_slice-in-Some.field-0) = ap (λ (bytes : List ℕ). Some (c.in-Some.frame.kind, bytes)) (sym c.in_ok-from_slice-in-Some.ensures) in
    let frame : frame_of c.in_ok-text.text ≡ Some (c.in-Some.frame.kind, c.in-Some.frame.content.now) = ap frame_of (sym c.as_slice-2.ensures) ∙ sym c.in-Some.ensures.value in
    (some.0, ap (option_and_then object_of) at ∙ object, ap (option_and_then frame_of) at ∙ frame ∙ content)
