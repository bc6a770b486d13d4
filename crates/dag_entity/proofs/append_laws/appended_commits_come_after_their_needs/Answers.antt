use Rattle.object_store.specs.Held.{objects_after}
use Rattle.dag_entity.proofs.AppendedLemmas.{append_needed, parent_names}
use Rattle.dag_entity.proofs.append_laws.appended_commits_come_after_their_needs.Goals as goal

pub returns : goal.returns
returns g c = λ folder parents pack now old may moment are free.
    append_needed g.K.OpKind.meaning parents pack now may moment (parent_names (objects_after old folder) parents are) folder old are free
