use Rattle.repo_state.proofs.FoundLemmas.{finds_whole, one_finding}
use Rattle.repo_state.proofs.PrefixLemmas.{some_finding}
use Rattle.repo_state.proofs.WordLemmas.{fits_front, least_two}
use Rattle.repo_state.proofs.laws.words_find_ids_by_their_first_digits.Goals as goal

pub returns-clause-fits : goal.returns-clause-fits
returns-clause-fits c = λ files folder of word id. fits_front word id

pub returns-clause-determined : goal.returns-clause-determined
returns-clause-determined c = one_finding

pub returns-clause-some : goal.returns-clause-some
returns-clause-some c = some_finding

pub returns-clause-one : goal.returns-clause-one
returns-clause-one c = λ files folder of word id. (λ found. (found.is_so, found.no_other), λ h. record { is_so = h.0; no_other = h.1 })

pub returns-clause-several : goal.returns-clause-several
returns-clause-several c = λ files folder of word least next. least_two word least next

pub returns-clause-whole : goal.returns-clause-whole
returns-clause-whole c = λ files folder of id. finds_whole id
