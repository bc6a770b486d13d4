use Rattle.identity.proofs.VersionLemmas.{is_version, version_is}
use Rattle.identity.proofs.laws.versions_by_members.Goals as goal

pub returns : goal.returns
returns c = λ text version. (is_version text version, version_is text version)
