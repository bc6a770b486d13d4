use Rattle.dag_entity.proofs.LawReports.{repeated, second, wrong}
use Rattle.dag_entity.proofs.report_laws.faults_of_operations_report_what_was_found.Goals as goal

pub returns-clause-wrong : goal.returns-clause-wrong
returns-clause-wrong g c = wrong g.K.OpKind.meaning

pub returns-clause-second : goal.returns-clause-second
returns-clause-second g c = second g.K.OpKind.meaning

pub returns-clause-repeated : goal.returns-clause-repeated
returns-clause-repeated g c = repeated g.K.OpKind.meaning
