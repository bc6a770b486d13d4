use Rattle.repo_state.proofs.EntryLemmas.{entry_has, entry_is}
use Rattle.repo_state.proofs.laws.users_have_their_heads.Goals as goal

pub returns-clause-has : goal.returns-clause-has
returns-clause-has c = entry_has

pub returns-clause-back : goal.returns-clause-back
returns-clause-back c = entry_is
