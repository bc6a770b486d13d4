use Rattle.gb_store.specs.Files.{files_of}
use Rattle.bug_run.proofs.AlikeLemmas.{comment_alike, edit_alike, log_alike, show_alike, user_alike}
use Rattle.bug_run.proofs.laws.answers_depend_on_what_words_find.Goals as goal

pub returns-clause-show : goal.returns-clause-show
returns-clause-show c = λ env old new word other result same is. (show_alike (files_of old) env.folder word other same result is.0, is.1)

pub returns-clause-log : goal.returns-clause-log
returns-clause-log c = λ env old new word other result same is. (log_alike (files_of old) env.folder word other same result is.0, is.1)

pub returns-clause-edit : goal.returns-clause-edit
returns-clause-edit c = λ env old new word other edit result same. edit_alike env word other old same edit new result

pub returns-clause-comment : goal.returns-clause-comment
returns-clause-comment c = λ env old new word other message result same. comment_alike env word other old same message new result

pub returns-clause-user : goal.returns-clause-user
returns-clause-user c = λ env old new word other result same. user_alike env word other old same new result
