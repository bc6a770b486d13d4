use Rattle.gb_store.proofs.TurnLemmas.{InTurn-at}
use Rattle.gb_store.proofs.turn_laws.turns_are_moments.Goals as goal

pub returns : goal.returns
returns g c = InTurn-at g.T.Turn.makes
