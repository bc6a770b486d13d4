use Rattle.words.proofs.AskLemmas.{new, user_edit, user_new}
use Rattle.words.proofs.laws.commands_ask_for_what_they_name.Goals as goal

pub returns-clause-user_new : goal.returns-clause-user_new
returns-clause-user_new c = user_new

pub returns-clause-user_edit : goal.returns-clause-user_edit
returns-clause-user_edit c = user_edit

pub returns-clause-new : goal.returns-clause-new
returns-clause-new c = new
