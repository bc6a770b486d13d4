-- Parts of UTF-8 texts are UTF-8.
use Rattle.json_span.proofs.Utf8Laws.{members_utf8, elements_utf8}
use Rattle.json_span.proofs.laws.parts_are_utf8.Goals as goal

pub returns-clause-members : goal.returns-clause-members
returns-clause-members c = members_utf8

pub returns-clause-elements : goal.returns-clause-elements
returns-clause-elements c = elements_utf8
