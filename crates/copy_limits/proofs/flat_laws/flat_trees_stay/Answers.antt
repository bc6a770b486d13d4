use Rattle.copy_limits.proofs.FlatStayLemmas.{flat_alike, flat_grown, flat_over}
use Rattle.copy_limits.proofs.flat_laws.flat_trees_stay.Goals as goal

pub returns-clause-grown : goal.returns-clause-grown
returns-clause-grown c = λ old new head grew flat. flat_grown old new grew head flat

pub returns-clause-over : goal.returns-clause-over
returns-clause-over c = flat_over

pub returns-clause-alike : goal.returns-clause-alike
returns-clause-alike c = λ source target head alike whole held flat. flat_alike source target alike whole head held flat
