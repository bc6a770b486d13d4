use Rattle.std.proofs.Common.{refl, Err, Ok}
use Rattle.query.specs.declared.fault.QueryFault.TheVariants.{BadValue, OpenQuote, UnknownField}
use Rattle.words.specs.declared.list.Layout.TheVariants.{Board, Lines}
use Rattle.words.proofs.ListLemmas.{list_read, spaced-more, spaced-one}
use Rattle.words.proofs.laws.lists_ask_for_what_they_name.Goals as goal

pub returns-clause-lines : goal.returns-clause-lines
returns-clause-lines c = λ arguments query. list_read Lines arguments (Ok query)

pub returns-clause-board : goal.returns-clause-board
returns-clause-board c = λ arguments query. list_read Board arguments (Ok query)

pub returns-clause-alone : goal.returns-clause-alone
returns-clause-alone c = (refl, refl)

pub returns-clause-unknown_field : goal.returns-clause-unknown_field
returns-clause-unknown_field c = λ arguments place is. (list_read Lines arguments (Err (UnknownField place)) is, list_read Board arguments (Err (UnknownField place)) is)

pub returns-clause-bad_value : goal.returns-clause-bad_value
returns-clause-bad_value c = λ arguments place is. (list_read Lines arguments (Err (BadValue place)) is, list_read Board arguments (Err (BadValue place)) is)

pub returns-clause-open_quote : goal.returns-clause-open_quote
returns-clause-open_quote c = λ arguments place is. (list_read Lines arguments (Err (OpenQuote place)) is, list_read Board arguments (Err (OpenQuote place)) is)

pub returns-clause-one : goal.returns-clause-one
returns-clause-one c = spaced-one

pub returns-clause-more : goal.returns-clause-more
returns-clause-more c = spaced-more
