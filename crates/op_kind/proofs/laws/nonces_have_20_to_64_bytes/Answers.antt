use Rattle.op_kind.proofs.NonceLengths.{length_read, short_refused, long_refused}
use Rattle.op_kind.proofs.laws.nonces_have_20_to_64_bytes.Goals as goal

pub returns-clause-read : goal.returns-clause-read
returns-clause-read c = length_read

pub returns-clause-short : goal.returns-clause-short
returns-clause-short c = short_refused

pub returns-clause-long : goal.returns-clause-long
returns-clause-long c = long_refused
