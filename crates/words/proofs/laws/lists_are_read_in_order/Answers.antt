use Rattle.words.proofs.ListLemmas.{bad_folder, bad_query, list_asked}
use Rattle.words.proofs.laws.lists_are_read_in_order.Goals as goal

pub returns-clause-folder : goal.returns-clause-folder
returns-clause-folder c = bad_folder

pub returns-clause-query : goal.returns-clause-query
returns-clause-query c = bad_query

pub returns-clause-list : goal.returns-clause-list
returns-clause-list c = list_asked
