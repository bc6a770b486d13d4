use Rattle.std.proofs.Common.{◌≢◌, inl, inr, Some, None, sym, ◌∙◌, subst, arith}
use Rattle.std.specs.Str.{bytes_eq}
use Rattle.std.proofs.lemmas.Bool.{cases_Bool}
use Rattle.gb_store.specs.Files.{History}
use Rattle.gb_store.proofs.FaultLemmas.{KeepsFaults_then}
use Rattle.object_store.specs.Held.{objects_after}
use Rattle.commit_walk.specs.Passing.{HasParent}
use Rattle.commit_walk.proofs.PassingLemmas.{come_further, met_here, name_differs, name_same, not_here, not_met, too_far}
use Rattle.commit_walk.proofs.passing.passes.Goals as goal

pub returns-in-None-clause-answers : goal.returns-in-None-clause-answers
returns-in-None-clause-answers g c = λ tells.
    let objects = objects_after (g.S.Store.history c.args.disk.now) c.args.folder.now in
    let name = c.loop.name in
    let sought = c.args.sought.now in
    let differ : name ≢ sought = name_differs name sought (sym c.eq.ensures ∙ c.if-eq.false) in
    let none : HasParent objects name None = subst (HasParent objects name) c.in-None.is
    (subst (λ (h : History). HasParent (objects_after h c.args.folder.now) name c.in_ok-parent.field-0) (c.loop.invariant.unwritten tells) (c.in_ok-parent.ensures.answers tells)) in
    (λ never. cc, λ met. absurd (not_met objects c.args.head.now sought name c.loop.counter (c.loop.invariant.come tells) differ none met))

pub loop-preserved : goal.loop-preserved
loop-preserved g c =
    let objects = objects_after (g.S.Store.history c.args.disk.now) c.args.folder.now in
    let name = c.loop.name in
    let sought = c.args.sought.now in
    let differ : name ≢ sought = name_differs name sought (sym c.eq.ensures ∙ c.if-eq.false) in
    let before = c.loop.invariant in
    record {
      come = λ tells.
          let has : HasParent objects name (Some c.in-Some.parent) = subst (HasParent objects name) c.in-Some.is
          (subst (λ (h : History). HasParent (objects_after h c.args.folder.now) name c.in_ok-parent.field-0) (before.unwritten tells) (c.in_ok-parent.ensures.answers tells)) in
          come_further objects c.args.head.now sought name c.in-Some.parent c.loop.counter (before.come tells) differ has;
      unwritten = λ tells. c.in_ok-parent.ensures.unwritten tells ∙ before.unwritten tells;
      reads = omega (arith, before.reads, c.in_ok-parent.ensures.reads);
      caused = KeepsFaults_then g.S.Store.never_fails g.S.Store.faults _ ⊥ c.args.disk.now c.loop.disk c.parent_of.new.disk before.caused c.in_ok-parent.ensures.caused (λ none. absurd none) (λ fails. absurd (cc));
    }

pub returns-clause-answers : goal.returns-clause-answers
returns-clause-answers g c = λ tells.
    let objects = objects_after (g.S.Store.history c.args.disk.now) c.args.folder.now in
    let name = c.loop.name in
    let sought = c.args.sought.now in
    let come = c.loop.invariant.come tells in (
      λ is_true. met_here objects c.args.head.now sought name c.loop.counter come (name_same name sought (sym c.eq-2.ensures ∙ is_true)) (omega (arith, c.loop.auto.counter-end)),
      λ met. elim (cases_Bool (bytes_eq name.bytes sought.bytes)) [
        | inl is_true ↦ c.eq-2.ensures ∙ is_true
        | inr is_false ↦ absurd (too_far objects c.args.head.now sought name c.loop.counter come (name_differs name sought is_false) (omega (arith, c.loop-test.false)) met)
      ],
    )

pub returns-then-eq-clause-above : goal.returns-then-eq-clause-above
returns-then-eq-clause-above g c = λ tells met. let here = (c.loop.invariant.come tells).not_before met in omega (arith, here, c.loop.invariant.reads)

pub returns-in_err-parent-clause-above : goal.returns-in_err-parent-clause-above
returns-in_err-parent-clause-above g c = λ tells met.
    let objects = objects_after (g.S.Store.history c.args.disk.now) c.args.folder.now in
    let name = c.loop.name in
    let sought = c.args.sought.now in
    let differ : name ≢ sought = name_differs name sought (sym c.eq.ensures ∙ c.if-eq.false) in
    let later = not_here objects c.args.head.now sought name c.loop.counter (c.loop.invariant.come tells) differ met in
    omega (arith, later, c.loop.invariant.reads, c.in_err-parent.ensures.reads)

pub returns-in-None-clause-above : goal.returns-in-None-clause-above
returns-in-None-clause-above g c = λ tells met.
    let objects = objects_after (g.S.Store.history c.args.disk.now) c.args.folder.now in
    let name = c.loop.name in
    let sought = c.args.sought.now in
    let differ : name ≢ sought = name_differs name sought (sym c.eq.ensures ∙ c.if-eq.false) in
    let later = not_here objects c.args.head.now sought name c.loop.counter (c.loop.invariant.come tells) differ met in
    omega (arith, later, c.loop.invariant.reads, c.in_ok-parent.ensures.reads)

pub returns-clause-above : goal.returns-clause-above
returns-clause-above g c = λ tells met. let here = (c.loop.invariant.come tells).not_before met in omega (arith, here, c.loop.invariant.reads)
