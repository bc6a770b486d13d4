use Rattle.op_kind.proofs.PairLemmas.{pairs_ascending, metadata_ascends}
use Rattle.op_kind.proofs.ReadLaws.{text_is_utf8, decimal_is_below, time_is_low, nonce_is_one, id_is_one, texts_are_utf8, pairs_are_utf8, metadata_is_utf8, common_is_within}
use Rattle.op_kind.proofs.laws.read_values_are_within_bounds.Goals as goal

pub returns-clause-texts : goal.returns-clause-texts
returns-clause-texts c = text_is_utf8

pub returns-clause-decimals : goal.returns-clause-decimals
returns-clause-decimals c = decimal_is_below

pub returns-clause-times : goal.returns-clause-times
returns-clause-times c = time_is_low

pub returns-clause-nonces : goal.returns-clause-nonces
returns-clause-nonces c = nonce_is_one

pub returns-clause-ids : goal.returns-clause-ids
returns-clause-ids c = id_is_one

pub returns-clause-lists : goal.returns-clause-lists
returns-clause-lists c = texts_are_utf8

pub returns-clause-pairs : goal.returns-clause-pairs
returns-clause-pairs c = λ json pairs h. (pairs_ascending json pairs h, pairs_are_utf8 json pairs h)

pub returns-clause-metadata : goal.returns-clause-metadata
returns-clause-metadata c = λ json pairs h. (metadata_ascends json pairs h, metadata_is_utf8 json pairs h)

pub returns-clause-common : goal.returns-clause-common
returns-clause-common c = common_is_within
