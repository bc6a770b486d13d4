use Rattle.op_pack.proofs.PackLaws.{text_fault_means_none, none_means_text_fault, memory_is_none, inner_memory_is_none}
use Rattle.op_pack.proofs.laws.pack_or_fault.Goals as goal

pub returns-clause-refused : goal.returns-clause-refused
returns-clause-refused g c = text_fault_means_none g.K.OpKind.meaning g.met.K.OpKind.laws

pub returns-clause-cause : goal.returns-clause-cause
returns-clause-cause g c = none_means_text_fault g.K.OpKind.meaning g.met.K.OpKind.laws

pub returns-clause-memory : goal.returns-clause-memory
returns-clause-memory g c = memory_is_none g.K.OpKind.meaning g.met.K.OpKind.laws

pub returns-clause-inner_memory : goal.returns-clause-inner_memory
returns-clause-inner_memory g c = inner_memory_is_none g.K.OpKind.meaning g.met.K.OpKind.laws
