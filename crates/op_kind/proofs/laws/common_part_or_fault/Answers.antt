use Rattle.op_kind.specs.CommonLaws.{fault_means_none, none_means_fault, memory_is_none, common_place, common_moved}
use Rattle.op_kind.proofs.laws.common_part_or_fault.Goals as goal

pub returns-clause-refused : goal.returns-clause-refused
returns-clause-refused c = fault_means_none

pub returns-clause-cause : goal.returns-clause-cause
returns-clause-cause c = none_means_fault

pub returns-clause-memory : goal.returns-clause-memory
returns-clause-memory c = memory_is_none

pub returns-clause-there : goal.returns-clause-there
returns-clause-there c = common_place

pub returns-clause-moved : goal.returns-clause-moved
returns-clause-moved c = λ here there text common h. common_moved there here text common h
