use Rattle.full_exchanges.proofs.ExchangeLemmas.{gathering_keeps, gathering_leaves}
use Rattle.full_exchanges.proofs.exchange_laws.gathering_leaves_the_union.Goals as goal

pub returns-clause-first : goal.returns-clause-first
returns-clause-first c = λ first others now old new differ ready one_text turns. gathering_leaves first others differ now old new ready one_text turns

pub returns-clause-others : goal.returns-clause-others
returns-clause-others c = λ first other others now old new differ ready is turns. gathering_keeps first others differ now ready.apart other is old new turns
