use Rattle.ref_store.proofs.FrameLemmas.{ref_at-object, id_ref_at-object}
use Rattle.ref_store.proofs.laws.objects_leave_all_refs.Goals as goal

pub returns-clause-path : goal.returns-clause-path
returns-clause-path c = ref_at-object

pub returns-clause-id : goal.returns-clause-id
returns-clause-id c = id_ref_at-object
