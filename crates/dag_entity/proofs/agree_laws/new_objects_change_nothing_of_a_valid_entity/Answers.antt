use Rattle.object_store.specs.Held.{objects_after}
use Rattle.object_store.proofs.GrowthLemmas.{objects_grew}
use Rattle.dag_entity.proofs.AgreeFaults.{entity_over, operations_over}
use Rattle.dag_entity.proofs.AgreeGrowth.{valid_stays}
use Rattle.dag_entity.proofs.AgreeLemmas.{agree_back}
use Rattle.dag_entity.proofs.agree_laws.new_objects_change_nothing_of_a_valid_entity.Goals as goal

pub returns-clause-same : goal.returns-clause-same
returns-clause-same g c = λ old new id heads authors grew valid. valid_stays g.K.OpKind.meaning id heads old new authors grew valid

pub returns-clause-stays : goal.returns-clause-stays
returns-clause-stays g c = λ old new id heads authors entity grew is.
    let k = g.K.OpKind.meaning in
    entity_over k old new heads (valid_stays k id heads old new authors grew is.valid) id authors entity is

pub returns-clause-no_other : goal.returns-clause-no_other
returns-clause-no_other g c = λ old new id heads authors entity grew valid is.
    let k = g.K.OpKind.meaning in
    entity_over k new old heads (agree_back old new heads (valid_stays k id heads old new authors grew valid)) id authors entity is

pub returns-clause-operations : goal.returns-clause-operations
returns-clause-operations g c = λ old new id heads authors ops grew valid are.
    let k = g.K.OpKind.meaning in
    operations_over old new heads (valid_stays k id heads old new authors grew valid) k ops are

pub returns-clause-puts : goal.returns-clause-puts
returns-clause-puts g c = λ folder old new id heads authors entity wrote is.
    let k = g.K.OpKind.meaning in
    let same = valid_stays k id heads (objects_after old folder) (objects_after new folder) authors (objects_grew folder old new wrote) is.valid in
    entity_over k (objects_after old folder) (objects_after new folder) heads same id authors entity is
