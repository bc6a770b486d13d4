use Rattle.op_kind.specs.ListLaws.{texts_read}
use Rattle.op_kind.specs.QuotedLaws.{quoted_reads}
use Rattle.op_kind.specs.WritingLaws.{decimal_reads, time_reads, nonce_reads, id_reads}
use Rattle.op_kind.proofs.PairTexts.{pairs_read, metadata_reads}
use Rattle.op_kind.proofs.laws.written_values_read_back.Goals as goal

pub returns-clause-texts : goal.returns-clause-texts
returns-clause-texts c = quoted_reads

pub returns-clause-decimals : goal.returns-clause-decimals
returns-clause-decimals c = decimal_reads

pub returns-clause-times : goal.returns-clause-times
returns-clause-times c = time_reads

pub returns-clause-nonces : goal.returns-clause-nonces
returns-clause-nonces c = nonce_reads

pub returns-clause-ids : goal.returns-clause-ids
returns-clause-ids c = id_reads

pub returns-clause-lists : goal.returns-clause-lists
returns-clause-lists c = texts_read

pub returns-clause-pairs : goal.returns-clause-pairs
returns-clause-pairs c = pairs_read

pub returns-clause-metadata : goal.returns-clause-metadata
returns-clause-metadata c = metadata_reads
