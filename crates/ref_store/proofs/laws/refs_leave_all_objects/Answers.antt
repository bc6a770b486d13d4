use Rattle.ref_store.proofs.FrameLemmas.{ref-no_object, id_ref-no_object}
use Rattle.ref_store.proofs.laws.refs_leave_all_objects.Goals as goal

pub returns-clause-path : goal.returns-clause-path
returns-clause-path c = ref-no_object

pub returns-clause-id : goal.returns-clause-id
returns-clause-id c = id_ref-no_object
