use Rattle.identity.proofs.VersionLemmas.{person_is_title, email_is_line}
use Rattle.identity.proofs.laws.versions_name_persons.Goals as goal

pub returns-clause-title : goal.returns-clause-title
returns-clause-title c = person_is_title

pub returns-clause-line : goal.returns-clause-line
returns-clause-line c = email_is_line
