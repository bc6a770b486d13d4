use Rattle.bug_ops.proofs.OrderLaws.{start_in_order, step_in_order, reached_in_order}
use Rattle.bug_ops.proofs.laws.reached_snapshots_are_in_order.Goals as goal

pub returns-clause-start : goal.returns-clause-start
returns-clause-start c = start_in_order

pub returns-clause-step : goal.returns-clause-step
returns-clause-step c = step_in_order

pub returns-clause-all : goal.returns-clause-all
returns-clause-all c = reached_in_order
