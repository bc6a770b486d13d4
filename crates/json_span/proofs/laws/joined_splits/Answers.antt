-- What is joined of value texts splits into them.
use Rattle.json_span.proofs.JoinLaws.{elements_joined, members_joined}
use Rattle.json_span.proofs.laws.joined_splits.Goals as goal

pub returns-clause-arrays : goal.returns-clause-arrays
returns-clause-arrays c = elements_joined

pub returns-clause-objects : goal.returns-clause-objects
returns-clause-objects c = members_joined
