use Rattle.op_kind.proofs.KindLemmas.{rows_append, states_append}
use Rattle.op_kind.proofs.laws.folds_append.Goals as goal

pub returns-clause-state : goal.returns-clause-state
returns-clause-state g c = states_append g.K.OpKind.meaning

pub returns-clause-row : goal.returns-clause-row
returns-clause-row g c = rows_append g.K.OpKind.meaning
