use Rattle.words.proofs.AskLemmas.{asks_nothing, bad_folder, bad_place, refused_argument, requested}
use Rattle.words.proofs.laws.requests_are_read_in_order.Goals as goal

pub returns-clause-refused : goal.returns-clause-refused
returns-clause-refused c = refused_argument

pub returns-clause-nothing : goal.returns-clause-nothing
returns-clause-nothing c = asks_nothing

pub returns-clause-folder : goal.returns-clause-folder
returns-clause-folder c = bad_folder

pub returns-clause-place : goal.returns-clause-place
returns-clause-place c = bad_place

pub returns-clause-request : goal.returns-clause-request
returns-clause-request c = requested
