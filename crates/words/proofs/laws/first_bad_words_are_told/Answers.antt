use Rattle.words.proofs.RuleLemmas.{first_bad, messages_are_read, none_bad}
use Rattle.words.proofs.laws.first_bad_words_are_told.Goals as goal

pub returns-clause-first : goal.returns-clause-first
returns-clause-first c = first_bad

pub returns-clause-none : goal.returns-clause-none
returns-clause-none c = none_bad

pub returns-clause-messages : goal.returns-clause-messages
returns-clause-messages c = messages_are_read
