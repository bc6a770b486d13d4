use Rattle.op_pack.proofs.PartsLaws.{one_text, one_head}
use Rattle.op_pack.proofs.laws.packs_are_determined.Goals as goal

pub returns-clause-heads : goal.returns-clause-heads
returns-clause-heads c = one_head

pub returns-clause-texts : goal.returns-clause-texts
returns-clause-texts c = one_text
