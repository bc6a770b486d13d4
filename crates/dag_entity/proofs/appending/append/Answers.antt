use Rattle.std.proofs.Common.{◌≡◌, Err, arith}
use Rattle.std.proofs.lemmas.Grind.{common_steps}
use Rattle.object_store.specs.Held.{objects_after}
use Rattle.dag_entity.specs.Appending.{append_plan}
use Rattle.dag_entity.proofs.AppendLemmas.{append_made, append_refused, plan_stands}
use Rattle.dag_entity.proofs.appending.append.Goals as goal

pub returns-in_err-put_all-clause-answers : goal.returns-in_err-put_all-clause-answers
returns-in_err-put_all-clause-answers g c = λ tells.
    let made = append_plan g.K.OpKind.meaning c.args.parents.now c.args.pack.now c.args.now in
    let is : c.from_residual-in_err-put_all.result ≡ Err c.in_err-put_all.field-0.0 = grind (arith, common_steps) in
    append_refused c.args.folder.now c.as_slice-texts.result.now c.in_ok-plan.plan made (g.S.Store.history c.args.disk.now) (g.S.Store.history c.put_all.new.disk) c.in_err-put_all.field-0.0
    c.from_residual-in_err-put_all.result c.as_slice-texts.ensures c.in_ok-plan.ensures.answer.0 is (c.in_err-put_all.ensures.answers tells)

pub returns-clause-answers : goal.returns-clause-answers
returns-clause-answers g c = λ tells.
    let made = append_plan g.K.OpKind.meaning c.args.parents.now c.args.pack.now c.args.now in
    append_made c.args.folder.now c.as_slice-texts.result.now c.in_ok-plan.plan made (g.S.Store.history c.args.disk.now) (g.S.Store.history c.put_all.new.disk)
    c.as_slice-texts.ensures c.in_ok-plan.ensures.answer.0 (c.in_ok-put_all.ensures.answers tells)

pub returns-clause-node : goal.returns-clause-node
returns-clause-node g c = λ tells can.
    let made = append_plan g.K.OpKind.meaning c.args.parents.now c.args.pack.now c.args.now in
    let new = objects_after (g.S.Store.history c.put_all.new.disk) c.args.folder.now in
    c.in_ok-plan.ensures.node can new
    (plan_stands new c.as_slice-texts.result.now c.in_ok-plan.plan made c.as_slice-texts.ensures c.in_ok-plan.ensures.answer.0 (c.in_ok-put_all.ensures.held tells))
