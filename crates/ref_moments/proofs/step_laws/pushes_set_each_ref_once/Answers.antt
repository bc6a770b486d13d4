use Rattle.sync_writes.proofs.PushKindLemmas.{push_writes}
use Rattle.ref_moments.proofs.ApartLemmas.{push_apart}
use Rattle.ref_moments.proofs.PushLemmas.{push_once}
use Rattle.ref_moments.proofs.step_laws.pushes_set_each_ref_once.Goals as goal

pub returns-clause-peer : goal.returns-clause-peer
returns-clause-peer c = λ own peer old new result of id answers is_id. push_once own peer old of id is_id new result answers

pub returns-clause-own : goal.returns-clause-own
returns-clause-own c = λ own peer old new result of id apart answers. push_apart own peer apart of id old new own (push_writes own peer apart old new result answers)
