use Rattle.gb_text.proofs.PathLemmas.{Overlap-mutual}
use Rattle.sync_writes.proofs.FetchKindLemmas.{fetch_writes}
use Rattle.ref_moments.proofs.ApartLemmas.{fetch_apart}
use Rattle.ref_moments.proofs.FetchLemmas.{fetch_once}
use Rattle.ref_moments.proofs.step_laws.fetches_set_each_ref_once.Goals as goal

pub returns-clause-own : goal.returns-clause-own
returns-clause-own c = λ own peer remote old new result of id answers is_id. fetch_once own peer remote old of id is_id new result answers

pub returns-clause-peer : goal.returns-clause-peer
returns-clause-peer c = λ own peer remote old new result of id apart answers. fetch_apart peer own (λ o. apart (Overlap-mutual peer own o)) of id old new peer remote (fetch_writes own peer remote apart old new result answers)
