use Rattle.std.proofs.Common.{◌≡◌, ◌∙◌, List, ℕ, Err, All, sym, subst, arith}
use Rattle.std.proofs.lemmas.Grind.{common_steps}
use Rattle.object_batch.specs.Batches.{SizesAnswer}
use Rattle.object_store.specs.Texts.{IsShort}
use Rattle.identity.specs.Making.{PlanAnswers}
use Rattle.identity.specs.Version.{text_with}
use Rattle.identity.proofs.MakingLemmas.{plan_made, plan_refused}
use Rattle.identity.proofs.making.plan_version.Goals as goal

pub returns-in_err-check_sizes : goal.returns-in_err-check_sizes
returns-in_err-check_sizes c =
    let version = text_with c.args.name.now c.args.email.now c.args.nonce.now c.args.now in
    let is : c.from_residual-in_err-check_sizes.result ≡ Err c.in_err-check_sizes.field-0.0 = grind (arith, common_steps) in
    subst (PlanAnswers version c.args.parent c.args.now) (sym is)
    (plan_refused c.as_slice.result.now version c.args.parent c.args.now c.in_ok-plan.plan c.in_err-check_sizes.field-0.0 (c.as_slice.ensures ∙ c.in_ok-version.ensures.text)
    c.in_ok-plan.ensures (subst (λ (ts : List (List ℕ)). SizesAnswer ts (Err c.in_err-check_sizes.field-0.0)) c.as_slice-2.ensures c.in_err-check_sizes.ensures))

pub returns : goal.returns
returns c =
    let version = text_with c.args.name.now c.args.email.now c.args.nonce.now c.args.now in
    plan_made c.as_slice.result.now version c.args.parent c.args.now c.in_ok-plan.plan (c.as_slice.ensures ∙ c.in_ok-version.ensures.text) c.in_ok-plan.ensures
    (subst (λ (ts : List (List ℕ)). All IsShort ts) c.as_slice-2.ensures c.in_ok-check_sizes.ensures)
