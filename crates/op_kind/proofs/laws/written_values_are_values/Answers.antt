use Rattle.op_kind.specs.ListLaws.{texts_writable}
use Rattle.op_kind.specs.WritingLaws.{text_writable, decimal_writable, nonce_writable, id_writable}
use Rattle.op_kind.proofs.PairTexts.{pairs_writable}
use Rattle.op_kind.proofs.laws.written_values_are_values.Goals as goal

pub returns-clause-texts : goal.returns-clause-texts
returns-clause-texts c = text_writable

pub returns-clause-decimals : goal.returns-clause-decimals
returns-clause-decimals c = decimal_writable

pub returns-clause-nonces : goal.returns-clause-nonces
returns-clause-nonces c = nonce_writable

pub returns-clause-ids : goal.returns-clause-ids
returns-clause-ids c = id_writable

pub returns-clause-lists : goal.returns-clause-lists
returns-clause-lists c = texts_writable

pub returns-clause-pairs : goal.returns-clause-pairs
returns-clause-pairs c = pairs_writable
