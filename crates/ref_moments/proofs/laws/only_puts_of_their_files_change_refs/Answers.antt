use Rattle.repo_state.specs.Sides.{ref_place}
use Rattle.ref_store.proofs.MapLemmas.{set_ref_reads}
use Rattle.ref_moments.proofs.KindLemmas.{fetch_changes, other_ref, push_changes, write_changes}
use Rattle.ref_moments.proofs.laws.only_puts_of_their_files_change_refs.Goals as goal

pub returns-clause-sets : goal.returns-clause-sets
returns-clause-sets c = λ folder files of id head named. set_ref_reads files folder (ref_place of id) head named

pub returns-clause-others : goal.returns-clause-others
returns-clause-others c = λ folder files of on id other head is_id is_other differ. other_ref folder files of on id other head is_id is_other differ

pub returns-clause-own : goal.returns-clause-own
returns-clause-own c = λ folder files change of id write. write_changes folder of id files change write

pub returns-clause-fetch : goal.returns-clause-fetch
returns-clause-fetch c = λ own peer remote entry earlier change of id write. fetch_changes own peer remote of id entry earlier change write

pub returns-clause-push : goal.returns-clause-push
returns-clause-push c = λ own peer files change of id write. push_changes own peer of id files change write
