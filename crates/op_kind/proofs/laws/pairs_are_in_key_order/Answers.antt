use Rattle.op_kind.proofs.PairLemmas.{pairs_found, pairs_only, same_pairs, pairs_by_members}
use Rattle.op_kind.proofs.laws.pairs_are_in_key_order.Goals as goal

pub returns-clause-found : goal.returns-clause-found
returns-clause-found c = pairs_found

pub returns-clause-only : goal.returns-clause-only
returns-clause-only c = pairs_only

pub returns-clause-same : goal.returns-clause-same
returns-clause-same c = same_pairs

pub returns-clause-moved : goal.returns-clause-moved
returns-clause-moved c = pairs_by_members
