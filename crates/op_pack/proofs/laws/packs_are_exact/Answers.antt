use Rattle.op_pack.proofs.ExactLaws.{pack_found, pack_only}
use Rattle.op_pack.proofs.laws.packs_are_exact.Goals as goal

pub returns-clause-found : goal.returns-clause-found
returns-clause-found g c = pack_found g.K.OpKind.meaning

pub returns-clause-only : goal.returns-clause-only
returns-clause-only g c = pack_only g.K.OpKind.meaning
