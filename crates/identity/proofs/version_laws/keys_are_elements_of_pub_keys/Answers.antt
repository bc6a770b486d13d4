use Rattle.identity.proofs.VersionBounds.{keys_are_elements}
use Rattle.identity.proofs.version_laws.keys_are_elements_of_pub_keys.Goals as goal

pub returns : goal.returns
returns c = keys_are_elements
