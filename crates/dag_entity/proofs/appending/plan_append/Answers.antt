use Rattle.std.proofs.Common.{◌≡◌, List, ℕ, Err, sym, subst, arith}
use Rattle.std.proofs.lemmas.Grind.{common_steps}
use Rattle.object_batch.specs.Batches.{SizesAnswer}
use Rattle.dag_entity.specs.Appending.{AppendPlanAnswers}
use Rattle.dag_entity.proofs.AppendLemmas.{plan_refused}
use Rattle.dag_entity.proofs.appending.plan_append.Goals as goal

pub returns-in_err-check_sizes-clause-answer : goal.returns-in_err-check_sizes-clause-answer
returns-in_err-check_sizes-clause-answer g c =
    let k = g.K.OpKind.meaning in
    let is : c.from_residual-in_err-check_sizes.result ≡ Err c.in_err-check_sizes.field-0.0 = grind (arith, common_steps) in
    subst (AppendPlanAnswers k c.args.parents.now c.args.pack.now c.args.now) (sym is)
    (plan_refused k c.args.parents.now c.args.pack.now c.args.now c.in_ok-plan.plan c.in_err-check_sizes.field-0.0 c.in_ok-plan.ensures.plan
    (subst (λ (ts : List (List ℕ)). SizesAnswer ts (Err c.in_err-check_sizes.field-0.0)) c.as_slice.ensures c.in_err-check_sizes.ensures))
