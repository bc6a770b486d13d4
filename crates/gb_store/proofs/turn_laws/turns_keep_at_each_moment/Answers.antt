use Rattle.gb_store.proofs.TurnLemmas.{InTurn-keeps, StoppedInTurn-keeps}
use Rattle.gb_store.proofs.turn_laws.turns_keep_at_each_moment.Goals as goal

pub returns-clause-done : goal.returns-clause-done
returns-clause-done g c = InTurn-keeps g.T.Turn.makes g.P.Property.holds

pub returns-clause-stopped : goal.returns-clause-stopped
returns-clause-stopped g c = StoppedInTurn-keeps g.T.Turn.makes g.T.Turn.stops g.P.Property.holds
