use Rattle.std.proofs.Common.{inr, sym, ◌∙◌}
use Rattle.object_batch.proofs.ClashLemmas.{clash_in-none, clash_in-some}
use Rattle.object_batch.proofs.PlanLemmas.{plan_answers}
use Rattle.object_batch.proofs.batch.plan_all.Goals as goal

pub returns-in-Some-clause-answers : goal.returns-in-Some-clause-answers
returns-in-Some-clause-answers g c = λ tells. (c.in_ok-check_sizes.ensures, inr (clash_in-some c.args.texts.now c.in-Some.name (sym c.clash_in.ensures ∙ c.in-Some.is)))

pub missing-requires-clause-apart : goal.missing-requires-clause-apart
missing-requires-clause-apart g c = clash_in-none c.args.texts.now (sym c.clash_in.ensures ∙ c.in_default.is)

pub returns-clause-answers : goal.returns-clause-answers
returns-clause-answers g c = λ tells.
    plan_answers c.args.folder.now c.args.texts.now (g.S.Store.history c.args.disk.now) c.missing.result c.in_ok-check_sizes.ensures
    (clash_in-none c.args.texts.now (sym c.clash_in.ensures ∙ c.in_default.is)) (c.missing.ensures.answers tells)
