use Rattle.packed_refs.proofs.WrittenLemmas.{read_is_packable, written_reads}
use Rattle.packed_refs.proofs.laws.packed_texts_read_back.Goals as goal

pub returns-clause-written : goal.returns-clause-written
returns-clause-written c = written_reads

pub returns-clause-read : goal.returns-clause-read
returns-clause-read c = read_is_packable
