use Rattle.gb_store.proofs.MomentLemmas.{WroteSome-there, WroteSome-back}
use Rattle.gb_store.proofs.laws.some_are_the_first.Goals as goal

pub returns : goal.returns
returns c = λ writes old new. (WroteSome-there writes old new, λ some. WroteSome-back writes old new some.0 some.1 some.2 some.3)
