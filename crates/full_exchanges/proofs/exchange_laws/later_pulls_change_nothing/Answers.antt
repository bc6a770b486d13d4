use Rattle.full_exchanges.specs.Exchanges.{exchange_among}
use Rattle.full_exchanges.proofs.ExchangeLemmas.{all_among, later_pulls}
use Rattle.full_exchanges.proofs.exchange_laws.later_pulls_change_nothing.Goals as goal

pub returns-clause-pulls : goal.returns-clause-pulls
returns-clause-pulls c = λ first others pulls now old mid new folder differ ready one_text turns among later is.
    later_pulls first others differ now pulls old mid new ready one_text turns among later folder is

pub returns-clause-exchange : goal.returns-clause-exchange
returns-clause-exchange c = λ first others now later old mid new folder differ ready one_text turns again is.
    later_pulls first others differ now (exchange_among first others later) old mid new ready one_text turns (all_among first others differ later) again folder is
