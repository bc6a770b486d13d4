use Rattle.repo_state.proofs.WordLemmas.{longer_finds_nothing, longer_finds_one, longer_finds_same, longer_finds_several}
use Rattle.repo_state.proofs.laws.longer_words_find_the_same.Goals as goal

pub returns-clause-one : goal.returns-clause-one
returns-clause-one c = λ files folder of word more id other. longer_finds_one word more id other

pub returns-clause-same : goal.returns-clause-same
returns-clause-same c = λ files folder of word more id. longer_finds_same word more id

pub returns-clause-several : goal.returns-clause-several
returns-clause-several c = λ files folder of word more id least next. longer_finds_several word more id least next

pub returns-clause-nothing : goal.returns-clause-nothing
returns-clause-nothing c = λ files folder of word more. longer_finds_nothing word more
