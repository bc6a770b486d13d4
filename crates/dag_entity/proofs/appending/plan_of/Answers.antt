use Rattle.std.proofs.Common.{[], refl, sym, ◌∙◌, ap}
use Rattle.git_object.specs.declared.object.Object.TheVariants as objects
use Rattle.op_pack.specs.Packs.{pack_at}
use Rattle.dag_entity.specs.Appending.{MayBeAppended, appended_head}
use Rattle.dag_entity.proofs.AppendLemmas.{commit_has, plan_is, tree_has}
use Rattle.dag_entity.proofs.AppendedLemmas.{node_stands}
use Rattle.dag_entity.proofs.appending.plan_of.Goals as goal

pub new-requires : goal.new-requires
new-requires g c = record { object = objects.Blob []; is_kind = refl; is = refl }

pub new-requires-2 : goal.new-requires-2
new-requires-2 g c = record { object = objects.Blob c.as_slice.result.now; is_kind = refl; is = refl }

pub new-requires-3 : goal.new-requires-3
new-requires-3 g c = tree_has c.as_slice-2.result.now c.in_ok-content.content _ c.as_slice-2.ensures c.in_ok-content.ensures.tree

pub new-requires-4 : goal.new-requires-4
new-requires-4 g c = commit_has c.as_slice-3.result.now c.in_ok-content-2.content _ c.as_slice-3.ensures c.in_ok-content-2.ensures.commit

pub returns-clause-plan : goal.returns-clause-plan
returns-clause-plan g c =
    plan_is g.K.OpKind.meaning c.args.parents.now c.args.pack.now c.args.now c.as_slice.result.now c.in_ok-empty.empty c.in_ok-blob.blob c.as_slice-2.result.now c.in_ok-tree.tree
    c.as_slice-3.result.now c.in_ok-commit.commit c.name.result c.name-2.result c.name-head.result c.in_ok-objects.objects c.in_ok-written.written.ids (c.as_slice.ensures ∙ c.in_ok-written.ensures.text)
    c.in_ok-empty.ensures c.in_ok-blob.ensures c.name.ensures.value (c.as_slice-2.ensures ∙ c.in_ok-content.ensures.text) c.in_ok-tree.ensures c.name-2.ensures.value
    (c.as_slice-3.ensures ∙ c.in_ok-content-2.ensures.text) c.in_ok-commit.ensures c.name-head.ensures.value c.in_ok-objects.ensures c.in_ok-written.ensures.ids

pub returns-clause-node : goal.returns-clause-node
returns-clause-node g c = λ can objects stand.
    let k = g.K.OpKind.meaning in
    let pack = c.args.pack.now in
    let may : MayBeAppended k pack =
    record { version = c.requires.version; edit = c.tree_content.ensures.edit; create = c.tree_content.ensures.create; rules = c.requires.rules } in
    node_stands k c.args.parents.now pack c.args.now may c.ranges.now.fits c.in_ok-content-2.ensures.commit.parents objects stand
    (ap (pack_at k (appended_head k pack)) (sym c.in_ok-written.ensures.text) ∙ c.in_ok-written.ensures.reads_back (appended_head k pack) can.few can.stand)
