use Rattle.operation_origins.proofs.OnceLemmas.{all_stand, stands_then}
use Rattle.operation_origins.proofs.laws.operations_stand_once.Goals as goal

pub returns-clause-run : goal.returns-clause-run
returns-clause-run c = λ folders old new apart run takes sound one_text fresh stand. stands_then folders apart old new run takes sound one_text fresh stand

pub returns-clause-runs : goal.returns-clause-runs
returns-clause-runs c = λ folders new apart runs one_text fresh. all_stand folders apart new runs one_text fresh
