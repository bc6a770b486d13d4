use Rattle.ref_moments.proofs.MomentLemmas.{one_change}
use Rattle.run_moments.proofs.OnceLemmas.{run_once}
use Rattle.run_moments.proofs.moment_laws.each_ref_changes_at_most_once.Goals as goal

pub returns-clause-once : goal.returns-clause-once
returns-clause-once c = λ call old new before after answer folder of id tells place is_id is. run_once of id is_id old new call before after answer tells is folder place

pub returns-clause-one : goal.returns-clause-one
returns-clause-one c = λ call old new first second before after answer folder of id tells place is_id is one two.
    one_change folder of id old new (run_once of id is_id old new call before after answer tells is folder place) first second one two
