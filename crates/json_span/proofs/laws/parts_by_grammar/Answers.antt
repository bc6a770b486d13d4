-- The functions are the grammar.
use Rattle.json_span.proofs.CutLaws.{members_taken, members_found, elements_taken, elements_found}
use Rattle.json_span.proofs.laws.parts_by_grammar.Goals as goal

pub returns-clause-members : goal.returns-clause-members
returns-clause-members c = members_found

pub returns-clause-members_all : goal.returns-clause-members_all
returns-clause-members_all c = members_taken

pub returns-clause-elements : goal.returns-clause-elements
returns-clause-elements c = elements_found

pub returns-clause-elements_all : goal.returns-clause-elements_all
returns-clause-elements_all c = elements_taken
