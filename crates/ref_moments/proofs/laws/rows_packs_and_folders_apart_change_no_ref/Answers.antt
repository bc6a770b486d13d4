use Rattle.ref_moments.proofs.ApartLemmas.{fetch_apart, kinds_apart, pack_stays, pack_stays_apart, push_apart, rows_stay}
use Rattle.ref_moments.proofs.laws.rows_packs_and_folders_apart_change_no_ref.Goals as goal

pub returns-clause-rows : goal.returns-clause-rows
returns-clause-rows c = λ folder of id old new wrote. rows_stay folder of id old new wrote

pub returns-clause-pack : goal.returns-clause-pack
returns-clause-pack c = λ folder of id old new wrote. pack_stays folder of id old new wrote

pub returns-clause-own : goal.returns-clause-own
returns-clause-own c = λ folder other of id old new apart wrote. kinds_apart folder other apart of id old new wrote

pub returns-clause-pack_apart : goal.returns-clause-pack_apart
returns-clause-pack_apart c = λ folder other of id old new apart wrote. pack_stays_apart folder other apart of id old new wrote

pub returns-clause-fetch : goal.returns-clause-fetch
returns-clause-fetch c = λ folder own peer remote of id old new apart wrote. fetch_apart folder own apart of id old new peer remote wrote

pub returns-clause-push : goal.returns-clause-push
returns-clause-push c = λ folder own peer of id old new apart wrote. push_apart folder peer apart of id old new own wrote
