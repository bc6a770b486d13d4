-- A list splits again.
use Rattle.json_span.proofs.AgainLaws.{objects_split, arrays_split}
use Rattle.json_span.proofs.laws.lists_split.Goals as goal

pub returns-clause-objects : goal.returns-clause-objects
returns-clause-objects c = objects_split

pub returns-clause-arrays : goal.returns-clause-arrays
returns-clause-arrays c = arrays_split
