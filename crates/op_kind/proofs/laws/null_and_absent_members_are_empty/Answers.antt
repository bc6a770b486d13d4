use Rattle.op_kind.proofs.EmptyMembers.{absent_metadata, null_list, null_metadata}
use Rattle.op_kind.proofs.laws.null_and_absent_members_are_empty.Goals as goal

pub returns-clause-metadata : goal.returns-clause-metadata
returns-clause-metadata c = null_metadata

pub returns-clause-absent : goal.returns-clause-absent
returns-clause-absent c = absent_metadata

pub returns-clause-lists : goal.returns-clause-lists
returns-clause-lists c = null_list
