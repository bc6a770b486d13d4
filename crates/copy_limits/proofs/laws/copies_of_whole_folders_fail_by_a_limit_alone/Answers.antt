use Rattle.copy_limits.proofs.WholeLemmas.{limit_alone}
use Rattle.copy_limits.proofs.laws.copies_of_whole_folders_fail_by_a_limit_alone.Goals as goal

pub returns-clause-limit : goal.returns-clause-limit
returns-clause-limit c = λ closed source target head why whole also alike held no_ring few cause. limit_alone closed source target head whole also alike held no_ring few why cause

pub returns-clause-numbers : goal.returns-clause-numbers
returns-clause-numbers c = λ count. (λ is. is, λ is. is)
