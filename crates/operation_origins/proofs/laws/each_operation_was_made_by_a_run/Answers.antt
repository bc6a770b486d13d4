use Rattle.operation_origins.proofs.OnceLemmas.{one_made}
use Rattle.operation_origins.proofs.laws.each_operation_was_made_by_a_run.Goals as goal

pub returns : goal.returns
returns c = λ folders new id placed apart runs one_text is_id there. one_made folders apart new runs one_text id is_id placed there
