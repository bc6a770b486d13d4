use Rattle.std.proofs.Common.{⊎_elim}
use Rattle.repo_state.proofs.FoundLemmas.{finds_not_both}
use Rattle.repo_edit.proofs.GrowingLemmas.{nothing_sought}
use Rattle.repo_edit.proofs.laws.commands_read_what_they_need.Goals as goal

pub returns-clause-not_found : goal.returns-clause-not_found
returns-clause-not_found c = λ files folder word edit done before after none reads.
    ⊎_elim (λ same. same) (λ bug. absurd (finds_not_both (bug.0).id bug.1.found none)) reads

pub returns-clause-none_sought : goal.returns-clause-none_sought
returns-clause-none_sought c = λ files folder word message done before after none reads. nothing_sought files folder word before after none reads
