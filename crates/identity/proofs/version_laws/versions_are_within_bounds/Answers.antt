use Rattle.identity.proofs.VersionBounds.{name_is_line, login_is_line, picture_is_line, time_is_bounded, nonce_is_bounded}
use Rattle.identity.proofs.VersionLemmas.{email_is_line}
use Rattle.identity.proofs.version_laws.versions_are_within_bounds.Goals as goal

pub returns-clause-name : goal.returns-clause-name
returns-clause-name c = name_is_line

pub returns-clause-email : goal.returns-clause-email
returns-clause-email c = email_is_line

pub returns-clause-login : goal.returns-clause-login
returns-clause-login c = login_is_line

pub returns-clause-picture : goal.returns-clause-picture
returns-clause-picture c = picture_is_line

pub returns-clause-time : goal.returns-clause-time
returns-clause-time c = time_is_bounded

pub returns-clause-nonce : goal.returns-clause-nonce
returns-clause-nonce c = nonce_is_bounded
