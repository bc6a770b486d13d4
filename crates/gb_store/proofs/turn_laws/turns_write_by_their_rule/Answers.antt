use Rattle.gb_store.proofs.TurnLemmas.{InTurn-wrote, StoppedInTurn-wrote}
use Rattle.gb_store.proofs.turn_laws.turns_write_by_their_rule.Goals as goal

pub returns-clause-done : goal.returns-clause-done
returns-clause-done g c = InTurn-wrote g.T.Turn.makes g.R.CallRule.allows

pub returns-clause-stopped : goal.returns-clause-stopped
returns-clause-stopped g c = StoppedInTurn-wrote g.T.Turn.makes g.T.Turn.stops g.R.CallRule.allows
