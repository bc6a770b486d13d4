-- The parts of a text lie in their order.
use Rattle.json_span.proofs.OrderLaws.{members_ascend, elements_ascend}
use Rattle.json_span.proofs.laws.spans_ascend.Goals as goal

pub returns-clause-objects : goal.returns-clause-objects
returns-clause-objects c = members_ascend

pub returns-clause-arrays : goal.returns-clause-arrays
returns-clause-arrays c = elements_ascend
