use Rattle.clean_folders.proofs.ExchangeLemmas.{unlimited_done}
use Rattle.clean_folders.proofs.exchange_laws.full_exchanges_of_clean_folders_are_done.Goals as goal

pub returns : goal.returns
returns c = unlimited_done
