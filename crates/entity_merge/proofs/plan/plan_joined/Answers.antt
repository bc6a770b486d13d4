use Rattle.std.proofs.Common.{◌≡◌, ℕ, ◌+◌, max, All, ◌∷◌, [], List, refl, sym, ◌∙◌, ap, subst, arith}
use Rattle.gb_text.specs.declared.id.Name.{Name}
use Rattle.object_store.specs.Held.{Objects}
use Rattle.object_store.specs.Texts.{IsShort}
use Rattle.object_batch.specs.Batches.{AllStand}
use Rattle.op_pack.specs.declared.pack.Pack.{Pack}
use Rattle.dag_entity.specs.Appending.{CanBeRead, append_plan, appended_objects, appended_node}
use Rattle.dag_entity.specs.Nodes.{IsNode}
use Rattle.dag_entity.specs.Joining.{merge_name, merge_node, merge_objects, merge_pack}
use Rattle.entity_merge.specs.declared.word.Merged.TheVariants as merged
use Rattle.entity_merge.proofs.plan.plan_joined.Goals as goal

pub returns-clause-answers : goal.returns-clause-answers
returns-clause-answers g c =
    let k = g.K.OpKind.meaning in
    let parents : List Name = c.args.local.now ∷ c.args.remote.now ∷ [] in
    let pack = merge_pack c.args.author.now c.in-Ok.edit in
    let plan : c.in_ok-plan.plan ≡ append_plan k parents pack c.args.now = c.in_ok-plan.ensures.answer.0 ∙ ap (λ (p : Pack _). append_plan k parents p c.args.now) c.merge_pack-pack.ensures in
    let number : c.number.result ≡ c.in-Ok.edit = c.number.ensures.value in
    let later : c.in-Ok.edit ≡ max c.args.clock.now c.args.entity.now.edit + 1 = omega (arith, c.in-Ok.ensures.value) in
    record {
      word = ap (λ p. merged.Joined p.head) plan ∙ ap (λ (e : ℕ). merged.Joined (merge_name k c.args.local.now c.args.remote.now c.args.author.now e c.args.now)) (sym number);
      edit_is = number ∙ later;
      create_is = refl;
      texts_are = ap (λ p. p.objects) plan ∙ ap (λ (e : ℕ). merge_objects k c.args.local.now c.args.remote.now c.args.author.now e c.args.now) (sym number);
      short = subst (All IsShort) (sym (ap (λ p. p.objects) c.in_ok-plan.ensures.answer.0)) c.in_ok-plan.ensures.answer.1;
    }

pub returns-clause-node : goal.returns-clause-node
returns-clause-node g c = λ objects stand.
    let k = g.K.OpKind.meaning in
    let parents : List Name = c.args.local.now ∷ c.args.remote.now ∷ [] in
    let pack = merge_pack c.args.author.now c.in-Ok.edit in
    let plan : c.in_ok-plan.plan ≡ append_plan k parents pack c.args.now = c.in_ok-plan.ensures.answer.0 ∙ ap (λ (p : Pack _). append_plan k parents p c.args.now) c.merge_pack-pack.ensures in
    let node : CanBeRead k pack → (o : Objects) → AllStand o (appended_objects k parents pack c.args.now) → IsNode k o (appended_node k parents pack c.args.now) =
    subst (λ (p : Pack _). CanBeRead k p → (o : Objects) → AllStand o (appended_objects k parents p c.args.now) → IsNode k o (appended_node k parents p c.args.now)) c.merge_pack-pack.ensures c.in_ok-plan.ensures.node in
    subst (λ (e : ℕ). IsNode k objects (merge_node k c.args.local.now c.args.remote.now c.args.author.now e c.args.now)) (sym c.number.ensures.value)
    (node (record { few = omega arith; stand = tt }) objects (subst (AllStand objects) (ap (λ p. p.objects) plan) stand))
