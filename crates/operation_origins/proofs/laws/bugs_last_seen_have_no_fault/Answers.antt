use Rattle.operation_origins.proofs.SeenLemmas.{all_seen, seen_then}
use Rattle.operation_origins.proofs.laws.bugs_last_seen_have_no_fault.Goals as goal

pub returns-clause-run : goal.returns-clause-run
returns-clause-run c = λ folders old new apart run takes sound one_text seen. seen_then folders apart old new run takes sound one_text seen

pub returns-clause-runs : goal.returns-clause-runs
returns-clause-runs c = λ folders new apart runs one_text. all_seen folders apart new runs one_text
