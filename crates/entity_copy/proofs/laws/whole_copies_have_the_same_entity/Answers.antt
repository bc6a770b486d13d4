use Rattle.std.proofs.Common.{[], ◌∷◌}
use Rattle.dag_entity.proofs.AgreeFaults.{entity_over, fault_over, operations_over}
use Rattle.dag_entity.proofs.AgreeLemmas.{agree_back, below_back, below_over}
use Rattle.entity_copy.proofs.NeededLemmas.{same_needed}
use Rattle.entity_copy.proofs.laws.whole_copies_have_the_same_entity.Goals as goal

pub returns-clause-needed : goal.returns-clause-needed
returns-clause-needed g c = λ source entry target head copied. same_needed source entry target head copied

pub returns-clause-below : goal.returns-clause-below
returns-clause-below g c = λ source entry target head name copied.
    let there = same_needed source entry target head copied in
    (below_over source target (head ∷ []) there name, below_back source target (head ∷ []) there name)

pub returns-clause-faults : goal.returns-clause-faults
returns-clause-faults g c = λ source entry target head id authors fault copied.
    let there = same_needed source entry target head copied in
    let back = agree_back source target (head ∷ []) there in
    (fault_over source target (head ∷ []) there g.K.OpKind.meaning id authors fault, fault_over target source (head ∷ []) back g.K.OpKind.meaning id authors fault)

pub returns-clause-entity : goal.returns-clause-entity
returns-clause-entity g c = λ source entry target head id authors entity copied.
    let there = same_needed source entry target head copied in
    let back = agree_back source target (head ∷ []) there in
    (entity_over g.K.OpKind.meaning source target (head ∷ []) there id authors entity, entity_over g.K.OpKind.meaning target source (head ∷ []) back id authors entity)

pub returns-clause-operations : goal.returns-clause-operations
returns-clause-operations g c = λ source entry target head ops copied.
    let there = same_needed source entry target head copied in
    let back = agree_back source target (head ∷ []) there in
    (operations_over source target (head ∷ []) there g.K.OpKind.meaning ops, operations_over target source (head ∷ []) back g.K.OpKind.meaning ops)
