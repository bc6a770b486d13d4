use Rattle.identity.proofs.MadeLemmas.{made_needed}
use Rattle.identity.proofs.making_laws.new_versions_come_after_their_needs.Goals as goal

pub returns : goal.returns
returns c = made_needed
