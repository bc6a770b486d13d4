use Rattle.std.proofs.Common.{length}
use Rattle.dag_graph.proofs.BelowLemmas.{added_below, below_added}
use Rattle.dag_graph.proofs.laws.below_is_what_adding_parents_gives.Goals as goal

pub returns : goal.returns
returns c = λ nodes heads name. (below_added nodes heads name, added_below nodes heads (length nodes) name)
