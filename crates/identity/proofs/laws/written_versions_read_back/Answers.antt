use Rattle.identity.proofs.VersionLemmas.{written_reads, titled_person}
use Rattle.identity.proofs.laws.written_versions_read_back.Goals as goal

pub returns-clause-version : goal.returns-clause-version
returns-clause-version c = written_reads

pub returns-clause-person : goal.returns-clause-person
returns-clause-person c = titled_person
