use Rattle.columns.proofs.CellLemmas.{longest}
use Rattle.columns.proofs.laws.the_longest_prefix_is_shown.Goals as goal

pub returns : goal.returns
returns c = longest
