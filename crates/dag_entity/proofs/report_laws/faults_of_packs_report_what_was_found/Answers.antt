use Rattle.dag_entity.proofs.LawReports.{author_unknown, merge, no_create, version}
use Rattle.dag_entity.proofs.report_laws.faults_of_packs_report_what_was_found.Goals as goal

pub returns-clause-author : goal.returns-clause-author
returns-clause-author g c = author_unknown g.K.OpKind.meaning

pub returns-clause-create : goal.returns-clause-create
returns-clause-create g c = no_create g.K.OpKind.meaning

pub returns-clause-merge : goal.returns-clause-merge
returns-clause-merge g c = merge g.K.OpKind.meaning

pub returns-clause-version : goal.returns-clause-version
returns-clause-version g c = version g.K.OpKind.meaning
