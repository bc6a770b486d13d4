use Rattle.repo_state.specs.declared.stop.Missed.TheVariants as missed
use Rattle.repo_steps.proofs.ReportLemmas.{no_bug_found, no_comment_found, no_person_found}
use Rattle.repo_steps.proofs.laws.words_that_find_not_one_are_refused.Goals as goal

pub returns-clause-bugs : goal.returns-clause-bugs
returns-clause-bugs c = λ env e word old user is none. no_bug_found env old e word user missed.NotFound is none

pub returns-clause-persons : goal.returns-clause-persons
returns-clause-persons c = λ env word old none. no_person_found env old word missed.NotFound none

pub returns-clause-several_bugs : goal.returns-clause-several_bugs
returns-clause-several_bugs c = λ env e word old user least next is many. no_bug_found env old e word user (missed.Ambiguous least next) is many

pub returns-clause-several_persons : goal.returns-clause-several_persons
returns-clause-several_persons c = λ env word old least next many. no_person_found env old word (missed.Ambiguous least next) many

pub returns-clause-comments : goal.returns-clause-comments
returns-clause-comments c = λ env message word old. no_comment_found env old message word
