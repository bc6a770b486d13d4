use Rattle.run_moments.proofs.QuietLemmas.{list_rows, list_stays}
use Rattle.run_moments.proofs.moment_laws.lists_change_rows_alone.Goals as goal

pub returns-clause-files : goal.returns-clause-files
returns-clause-files c = λ call old new before after answer request tells asks is. list_rows call old new before after answer request tells asks is

pub returns-clause-refs : goal.returns-clause-refs
returns-clause-refs c = λ call old new before after answer request of id tells asks is. list_stays call old new before after answer request tells asks is of id
