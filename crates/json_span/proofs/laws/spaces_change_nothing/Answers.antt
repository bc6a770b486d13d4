-- White space at the ends changes no part.
use Rattle.json_span.proofs.SpaceLaws.{members_spaced, elements_spaced}
use Rattle.json_span.proofs.laws.spaces_change_nothing.Goals as goal

pub returns-clause-objects : goal.returns-clause-objects
returns-clause-objects c = members_spaced

pub returns-clause-arrays : goal.returns-clause-arrays
returns-clause-arrays c = elements_spaced
