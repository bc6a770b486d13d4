use Rattle.op_pack.proofs.BackLaws.{written_parts, reads_back}
use Rattle.op_pack.proofs.laws.written_packs_read_back.Goals as goal

pub returns-clause-slices : goal.returns-clause-slices
returns-clause-slices g c = written_parts g.K.OpKind.meaning g.met.K.OpKind.laws

pub returns-clause-packs : goal.returns-clause-packs
returns-clause-packs g c = reads_back g.K.OpKind.meaning g.met.K.OpKind.laws
