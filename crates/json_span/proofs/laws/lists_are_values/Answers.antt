-- Lists of value texts are value texts.
use Rattle.json_span.proofs.JoinLaws.{array_value, object_value}
use Rattle.json_span.proofs.ValueLaws.{deeper}
use Rattle.json_span.proofs.laws.lists_are_values.Goals as goal

pub returns-clause-arrays : goal.returns-clause-arrays
returns-clause-arrays c = array_value

pub returns-clause-objects : goal.returns-clause-objects
returns-clause-objects c = object_value

pub returns-clause-deeper : goal.returns-clause-deeper
returns-clause-deeper c = deeper
