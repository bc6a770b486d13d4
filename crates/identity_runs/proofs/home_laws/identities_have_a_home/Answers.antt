use Rattle.identity_runs.proofs.HomeLemmas.{home_of}
use Rattle.identity_runs.proofs.home_laws.identities_have_a_home.Goals as goal

pub returns : goal.returns
returns c = λ folders new id head apart runs once at_home is_id there. home_of folders apart new runs once at_home id is_id head there
