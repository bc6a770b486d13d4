use Rattle.op_pack.proofs.ReportLemmas.{number_reported, one_reported, versions_found}
use Rattle.op_pack.proofs.laws.unknown_versions_are_reported.Goals as goal

pub returns-clause-entries : goal.returns-clause-entries
returns-clause-entries c = versions_found

pub returns-clause-number : goal.returns-clause-number
returns-clause-number c = number_reported

pub returns-clause-one : goal.returns-clause-one
returns-clause-one c = one_reported
