use Rattle.full_exchanges.proofs.ExchangeLemmas.{exchange_agrees, exchange_follows, exchange_leaves}
use Rattle.full_exchanges.proofs.exchange_laws.exchanges_leave_the_union_everywhere.Goals as goal

pub returns-clause-union : goal.returns-clause-union
returns-clause-union c = λ first others now old new folder differ ready one_text turns is. exchange_leaves first others differ now old new ready one_text turns folder is

pub returns-clause-same : goal.returns-clause-same
returns-clause-same c = λ first others now old new one two differ ready one_text turns is_one is_two.
    exchange_agrees first others differ now old new ready one_text turns one two is_one is_two

pub returns-clause-ready : goal.returns-clause-ready
returns-clause-ready c = λ first others now old new differ ready one_text turns. (exchange_follows first others differ now old new ready one_text turns).ready
