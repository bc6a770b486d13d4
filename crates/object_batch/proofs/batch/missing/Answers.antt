use Rattle.std.proofs.Common.{◌≡◌, ◌∙◌, Err, Ok, IsTrue, take, refl, sym, subst, arith}
use Rattle.std.proofs.lemmas.Grind.{common_steps}
use Rattle.gb_store.proofs.FaultLemmas.{KeepsFaults_then}
use Rattle.object_batch.specs.Batches.{AddsMissing, AreMissing}
use Rattle.object_batch.proofs.PlanLemmas.{adds_at, adds_free, free_more, plan_more, plan_refused}
use Rattle.object_batch.proofs.batch.missing.Goals as goal

pub returns-in_err-add_missing-clause-answers : goal.returns-in_err-add_missing-clause-answers
returns-in_err-add_missing-clause-answers g c = λ tells.
    let is : c.from_residual.result ≡ Err c.in_err-add_missing.field-0.0 = grind (arith, common_steps) in
    subst (AreMissing c.args.folder.now c.args.texts.now (g.S.Store.history c.args.disk.now)) (sym is)
    (plan_refused c.args.folder.now c.args.texts.now c.loop-place.place c.index-texts-place.result (take c.loop-place.place c.args.texts.now) (g.S.Store.history c.args.disk.now)
    (g.S.Store.history c.loop-place.disk) c.in_err-add_missing.field-0.0 (c.loop-place.invariant.unwritten tells) (omega arith) (sym c.index-texts-place.is)
    (c.in_err-add_missing.ensures.answers tells))

pub loop-place-preserved : goal.loop-place-preserved
loop-place-preserved g c =
    let folder = c.args.folder.now in
    let texts = c.args.texts.now in
    let i = c.loop-place.place in
    let text = c.index-texts-place.result in
    let old = g.S.Store.history c.args.disk.now in
    let before = c.loop-place.changes.items in
    let after = c.add_missing.new.changes.items in
    let adds : IsTrue g.S.Store.tells → AddsMissing folder text (take i texts) old before after (Ok tt) = λ tells.
    adds_at folder text (take i texts) old (g.S.Store.history c.loop-place.disk) before after (c.loop-place.invariant.unwritten tells) (c.in_ok-add_missing.ensures.answers tells) in
    record {
      put = λ tells. plan_more folder texts i text (take i texts) old before after (omega arith) (sym c.index-texts-place.is) refl c.requires.apart (c.loop-place.invariant.put tells) (adds tells);
      free = λ tells.
          free_more folder texts i text old (sym c.index-texts-place.is) (omega arith) (c.loop-place.invariant.free tells)
          (adds_free folder text (take i texts) old before after (adds tells));
      unwritten = λ tells. c.in_ok-add_missing.ensures.unwritten tells ∙ c.loop-place.invariant.unwritten tells;
      reads = omega arith;
      caused = KeepsFaults_then g.S.Store.never_fails g.S.Store.faults _ ⊥ c.args.disk.now c.loop-place.disk c.add_missing.new.disk c.loop-place.invariant.caused c.in_ok-add_missing.ensures.caused (λ none. absurd none) (λ fails. absurd (cc));
    }
