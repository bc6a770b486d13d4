use Rattle.op_pack.proofs.PlaceLaws.{place_is, id_is_hash, head_is, ids_are_hashes}
use Rattle.op_pack.proofs.laws.operations_stand_where_their_pack_does.Goals as goal

pub returns-clause-place : goal.returns-clause-place
returns-clause-place g c = place_is

pub returns-clause-id : goal.returns-clause-id
returns-clause-id g c = id_is_hash g.K.OpKind.meaning

pub returns-clause-head : goal.returns-clause-head
returns-clause-head g c = head_is g.K.OpKind.meaning

pub returns-clause-ids : goal.returns-clause-ids
returns-clause-ids g c = ids_are_hashes g.K.OpKind.meaning
