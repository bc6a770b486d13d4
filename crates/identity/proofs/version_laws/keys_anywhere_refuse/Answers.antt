use Rattle.identity.proofs.VersionBounds.{keys_reported, keys_of_head, keys_refuse}
use Rattle.identity.proofs.version_laws.keys_anywhere_refuse.Goals as goal

pub returns-clause-chain : goal.returns-clause-chain
returns-clause-chain c = keys_reported

pub returns-clause-last : goal.returns-clause-last
returns-clause-last c = keys_of_head

pub returns-clause-refused : goal.returns-clause-refused
returns-clause-refused c = keys_refuse
