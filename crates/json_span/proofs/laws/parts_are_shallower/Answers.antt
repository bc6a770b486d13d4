-- Parts have one bracket fewer open.
use Rattle.json_span.proofs.AgainLaws.{members_shallower, elements_shallower, members_limit, elements_limit}
use Rattle.json_span.proofs.laws.parts_are_shallower.Goals as goal

pub returns-clause-members : goal.returns-clause-members
returns-clause-members c = members_shallower

pub returns-clause-elements : goal.returns-clause-elements
returns-clause-elements c = elements_shallower

pub returns-clause-members_limit : goal.returns-clause-members_limit
returns-clause-members_limit c = members_limit

pub returns-clause-elements_limit : goal.returns-clause-elements_limit
returns-clause-elements_limit c = elements_limit
