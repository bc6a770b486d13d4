use Rattle.op_pack.proofs.HeadLaws.{head_fault_means_none, none_means_head_fault, head_in_range}
use Rattle.op_pack.proofs.laws.head_or_fault.Goals as goal

pub returns-clause-refused : goal.returns-clause-refused
returns-clause-refused c = head_fault_means_none

pub returns-clause-cause : goal.returns-clause-cause
returns-clause-cause c = none_means_head_fault

pub returns-clause-in_range : goal.returns-clause-in_range
returns-clause-in_range c = head_in_range
