use Rattle.object_store.specs.Held.{objects_after}
use Rattle.object_batch.proofs.PlanLemmas.{batch_grew, batch_held}
use Rattle.dag_entity.specs.Appending.{after_append, appended_objects}
use Rattle.dag_entity.proofs.AppendedLemmas.{node_stands, pack_reads}
use Rattle.dag_entity.proofs.append_laws.appended_commits_have_their_nodes.Goals as goal

pub returns-clause-stand : goal.returns-clause-stand
returns-clause-stand g c = λ objects parents pack now may can author moment names stand.
    let k = g.K.OpKind.meaning in
    node_stands k parents pack now may moment names objects stand (pack_reads k pack g.met.K.OpKind.laws author can)

pub returns-clause-put : goal.returns-clause-put
returns-clause-put g c = λ folder parents pack now old may can author moment names free.
    let k = g.K.OpKind.meaning in
    node_stands k parents pack now may moment names (objects_after (after_append k folder parents pack now old) folder)
    (batch_held folder (appended_objects k parents pack now) old free) (pack_reads k pack g.met.K.OpKind.laws author can)

pub returns-clause-kept : goal.returns-clause-kept
returns-clause-kept g c = λ folder parents pack now old. batch_grew folder (appended_objects g.K.OpKind.meaning parents pack now) old
