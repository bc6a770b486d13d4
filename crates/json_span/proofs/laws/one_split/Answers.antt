-- A text has at most one split.
use Rattle.json_span.specs.declared.state.Kind.TheVariants.{Object}
use Rattle.json_span.proofs.SplitLaws.{split_one, array_one}
use Rattle.json_span.proofs.laws.one_split.Goals as goal

pub returns-clause-objects : goal.returns-clause-objects
returns-clause-objects c = split_one Object

pub returns-clause-arrays : goal.returns-clause-arrays
returns-clause-arrays c = array_one
