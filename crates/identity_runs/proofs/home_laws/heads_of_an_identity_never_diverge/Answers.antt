use Rattle.identity_runs.proofs.LineLemmas.{none_diverge, none_diverge_in_one}
use Rattle.identity_runs.proofs.home_laws.heads_of_an_identity_never_diverge.Goals as goal

pub returns-clause-home : goal.returns-clause-home
returns-clause-home c = λ folders new apart runs once at_home. none_diverge folders apart new runs once at_home

pub returns-clause-folder : goal.returns-clause-folder
returns-clause-folder c = λ folders new apart runs once at_home one_text. none_diverge_in_one folders apart new runs once at_home one_text
