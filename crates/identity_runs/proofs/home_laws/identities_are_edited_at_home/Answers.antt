use Rattle.identity_runs.proofs.UserHomeLemmas.{edited_at_home}
use Rattle.identity_runs.proofs.home_laws.identities_are_edited_at_home.Goals as goal

pub returns : goal.returns
returns c = λ folders new apart runs at_home. edited_at_home folders apart new runs at_home
