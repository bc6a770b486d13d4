use Rattle.std.proofs.Common.{[]}
use Rattle.dag_graph.specs.Below.{head}
use Rattle.dag_graph.proofs.BelowLemmas.{ancestors, through}
use Rattle.dag_graph.proofs.ListLemmas.{Contains-first}
use Rattle.dag_graph.proofs.laws.below_is_transitive.Goals as goal

pub returns-clause-heads : goal.returns-clause-heads
returns-clause-heads c = λ nodes heads name h. head h

pub returns-clause-through : goal.returns-clause-through
returns-clause-through c = through

pub returns-clause-itself : goal.returns-clause-itself
returns-clause-itself c = λ nodes name. head (Contains-first name [])

pub returns-clause-ancestors : goal.returns-clause-ancestors
returns-clause-ancestors c = ancestors
