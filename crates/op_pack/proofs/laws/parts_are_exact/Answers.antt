use Rattle.op_pack.proofs.PartsLaws.{parts_found, parts_only}
use Rattle.op_pack.proofs.laws.parts_are_exact.Goals as goal

pub returns-clause-found : goal.returns-clause-found
returns-clause-found c = parts_found

pub returns-clause-only : goal.returns-clause-only
returns-clause-only c = parts_only
