use Rattle.full_exchanges.proofs.ShownLemmas.{agreeing_show}
use Rattle.full_exchanges.proofs.exchange_laws.agreeing_folders_show_the_same.Goals as goal

pub returns : goal.returns
returns c = λ files others folder place word one two same alike first second. agreeing_show files others folder place word one two same alike first second
