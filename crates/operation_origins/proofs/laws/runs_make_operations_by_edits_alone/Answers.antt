use Rattle.gb_store.specs.Files.{files_of}
use Rattle.words.specs.Words.{asked_of}
use Rattle.operation_origins.proofs.OnceLemmas.{made_once, one_operation}
use Rattle.operation_origins.proofs.RunLemmas.{run_origins}
use Rattle.operation_origins.proofs.laws.runs_make_operations_by_edits_alone.Goals as goal

pub returns-clause-origins : goal.returns-clause-origins
returns-clause-origins c = λ folders old new id placed apart run takes sound one_text is_id there. run_origins folders apart old new run takes sound one_text id is_id placed there

pub returns-clause-one_commit : goal.returns-clause-one_commit
returns-clause-one_commit c = λ folders old new run id other one two here there. made_once folders (asked_of run.words) run.moment (files_of old) id other one two here there

pub returns-clause-one_operation : goal.returns-clause-one_operation
returns-clause-one_operation c = λ folders old new run id placed made. one_operation folders (asked_of run.words) run.moment (files_of old) id placed made
