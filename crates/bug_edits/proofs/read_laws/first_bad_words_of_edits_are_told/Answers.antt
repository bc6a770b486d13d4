use Rattle.bug_edits.proofs.ReadLemmas.{first_bad_edit, none_bad_edit}
use Rattle.bug_edits.proofs.read_laws.first_bad_words_of_edits_are_told.Goals as goal

pub returns-clause-first : goal.returns-clause-first
returns-clause-first c = first_bad_edit

pub returns-clause-none : goal.returns-clause-none
returns-clause-none c = none_bad_edit
