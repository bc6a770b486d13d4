use Rattle.std.proofs.Common.{rules, ◌≡◌, Err, sym, subst}
use Rattle.object_store.specs.Held.{objects_after}
use Rattle.dag_entity.specs.Entities.{EntityAnswers}
use Rattle.dag_entity.proofs.LoadLemmas.{all_loaded}
use Rattle.dag_entity.proofs.ReadLemmas.{are_nodes, have_heads, load_refused, rules_placed}
use Rattle.dag_entity.proofs.read.read_walked.Goals as goal

pub returns-in_err-loaded-clause-answers : goal.returns-in_err-loaded-clause-answers
returns-in_err-loaded-clause-answers g c = λ tells whole.
    let objects = objects_after (g.S.Store.history c.args.disk.now) c.args.folder.now in
    let k = g.K.OpKind.meaning in
    let f = c.in_err-loaded.field-0.0 in
    let is : c.from_residual.result ≡ Err f = search rules in
    subst (λ r. EntityAnswers k objects c.args.id.now c.args.heads.now c.args.authors.now r) (sym is)
    (load_refused k objects c.args.heads.now c.args.id.now c.args.authors.now c.args.walk.items f whole (c.in_err-loaded.ensures.answers tells))

pub entity_of-requires-clause-nodes : goal.entity_of-requires-clause-nodes
entity_of-requires-clause-nodes g c =
    are_nodes c.args.heads.now c.args.walk.items c.in_ok-loaded.loaded.items c.requires.closed c.in_ok-loaded.ensures.lineages c.requires.count

pub entity_of-requires-clause-heads : goal.entity_of-requires-clause-heads
entity_of-requires-clause-heads g c =
    have_heads c.args.heads.now c.args.walk.items c.in_ok-loaded.loaded.items c.requires.closed c.in_ok-loaded.ensures.lineages

pub returns-clause-answers : goal.returns-clause-answers
returns-clause-answers g c = λ tells whole.
    let objects = objects_after (g.S.Store.history c.args.disk.now) c.args.folder.now in
    let k = g.K.OpKind.meaning in
    let loaded = c.in_ok-loaded.loaded.items in
    c.entity_of.ensures.answers objects (all_loaded k objects c.args.walk.items c.args.heads.now loaded whole c.in_ok-loaded.ensures.lineages (c.in_ok-loaded.ensures.answers tells))

pub returns-clause-rules : goal.returns-clause-rules
returns-clause-rules g c = c.entity_of.ensures.rules (rules_placed g.K.OpKind.meaning c.in_ok-loaded.loaded.items c.in_ok-loaded.ensures.rules)
