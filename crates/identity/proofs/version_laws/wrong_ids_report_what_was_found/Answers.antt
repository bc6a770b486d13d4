use Rattle.identity.proofs.VersionBounds.{wrong_id}
use Rattle.identity.proofs.version_laws.wrong_ids_report_what_was_found.Goals as goal

pub returns : goal.returns
returns c = wrong_id
