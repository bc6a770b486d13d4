use Rattle.clean_folders.proofs.ExchangeLemmas.{unlimited_digest, unlimited_same}
use Rattle.clean_folders.proofs.exchange_laws.clean_folders_agree_after_a_full_exchange.Goals as goal

pub returns-clause-same : goal.returns-clause-same
returns-clause-same c = λ folders one two now old new most clean made edited users one_text exchange is_one is_two.
    unlimited_same folders one two now old new most clean made edited users one_text exchange is_one is_two

pub returns-clause-digest : goal.returns-clause-digest
returns-clause-digest c = λ folders one two now old new first second most clean made edited users one_text exchange is_one is_two.
    unlimited_digest folders one two now old new most clean made edited users one_text exchange is_one is_two first second
