use Rattle.std.proofs.Common.{Option, Ok, IfOk, sym, subst}
use Rattle.object_store.specs.Held.{Objects, objects_after}
use Rattle.object_batch.specs.Batches.{AllStand}
use Rattle.dag_entity.specs.Joining.{BothAnswers, merge_node}
use Rattle.dag_entity.specs.Nodes.{IsNode}
use Rattle.dag_entity.specs.declared.both.ReadBoth.TheVariants as both
use Rattle.entity_merge.specs.Joins.{IfJoined, PlanAnswers}
use Rattle.entity_merge.proofs.PlanLemmas.{node_of_join, plan_forward, plan_joins, plan_known}
use Rattle.entity_merge.proofs.plan.plan_merge.Goals as goal

pub returns-in_default-clause-answers : goal.returns-in_default-clause-answers
returns-in_default-clause-answers g c = λ tells.
    let objects = objects_after (g.S.Store.history c.args.disk.now) c.args.folder.now in
    let k = g.K.OpKind.meaning in
    subst (λ (local : Option _). PlanAnswers k objects c.args.id.now local c.args.remote.now c.args.author.now c.args.authors.now c.args.clock.now c.args.now c.plan_new.result)
    (sym c.in_default.is) (c.plan_new.ensures.answers tells c.args.author.now c.args.clock.now c.args.now)

pub returns-in-Equal-clause-answers : goal.returns-in-Equal-clause-answers
returns-in-Equal-clause-answers g c = λ tells.
    let objects = objects_after (g.S.Store.history c.args.disk.now) c.args.folder.now in
    let k = g.K.OpKind.meaning in
    let one = c.in-Some.local in
    let two = c.args.remote.now in
    subst (λ (local : Option _). PlanAnswers k objects c.args.id.now local two c.args.author.now c.args.authors.now c.args.clock.now c.args.now (Ok c.nothing.result)) (sym c.in-Some.is)
    (plan_known k objects c.args.id.now c.args.author.now c.args.authors.now c.args.clock.now c.args.now one two c.in_ok-read_both.field-0 c.nothing.result c.in-Equal.is (c.in_ok-read_both.ensures.answers tells) c.nothing.ensures)

pub returns-in-Above-clause-answers : goal.returns-in-Above-clause-answers
returns-in-Above-clause-answers g c = λ tells.
    let objects = objects_after (g.S.Store.history c.args.disk.now) c.args.folder.now in
    let k = g.K.OpKind.meaning in
    let one = c.in-Some.local in
    let two = c.args.remote.now in
    let entity = c.in-Above.entity in
    let found : BothAnswers k objects c.args.id.now one two c.args.authors.now (Ok (both.Above entity)) = subst (λ b. BothAnswers k objects c.args.id.now one two c.args.authors.now (Ok b)) c.in-Above.is (c.in_ok-read_both.ensures.answers tells) in
    subst (λ (local : Option _). PlanAnswers k objects c.args.id.now local two c.args.author.now c.args.authors.now c.args.clock.now c.args.now (Ok c.taken.result)) (sym c.in-Some.is)
    (plan_forward k objects c.args.id.now c.args.author.now c.args.authors.now c.args.clock.now c.args.now one two entity found.2 found.0 c.taken.result found.1 c.taken.ensures.merged c.taken.ensures.edit c.taken.ensures.create c.taken.ensures.objects)

pub returns-in-Apart-clause-answers : goal.returns-in-Apart-clause-answers
returns-in-Apart-clause-answers g c = λ tells.
    let objects = objects_after (g.S.Store.history c.args.disk.now) c.args.folder.now in
    let k = g.K.OpKind.meaning in
    let one = c.in-Some.local in
    let two = c.args.remote.now in
    let entity = c.in-Apart.entity in
    let found : BothAnswers k objects c.args.id.now one two c.args.authors.now (Ok (both.Apart entity)) = subst (λ b. BothAnswers k objects c.args.id.now one two c.args.authors.now (Ok b)) c.in-Apart.is (c.in_ok-read_both.ensures.answers tells) in
    subst (λ (local : Option _). PlanAnswers k objects c.args.id.now local two c.args.author.now c.args.authors.now c.args.clock.now c.args.now c.plan_joined.result) (sym c.in-Some.is)
    (plan_joins k objects c.args.id.now c.args.author.now c.args.authors.now c.args.clock.now c.args.now one two entity found.1 found.0.two_apart found.0.one_apart c.plan_joined.result c.plan_joined.ensures.answers)

pub returns-in-Apart-clause-node : goal.returns-in-Apart-clause-node
returns-in-Apart-clause-node g c =
    let k = g.K.OpKind.meaning in
    let one = c.in-Some.local in
    let two = c.args.remote.now in
    let entity = c.in-Apart.entity in
    subst (λ (local : Option _). IfOk c.plan_joined.result (λ plan. (others : Objects) → AllStand others plan.objects → IfJoined local plan.merged (λ low. IsNode k others (merge_node k low two c.args.author.now plan.edit c.args.now)))) (sym c.in-Some.is)
    (node_of_join k c.args.author.now c.args.clock.now c.args.now one two entity.edit entity.create c.plan_joined.result c.plan_joined.ensures.answers c.plan_joined.ensures.node)
