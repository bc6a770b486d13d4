use Rattle.repo_state.proofs.KindLemmas.{clock_at-seen}
use Rattle.repo_state.proofs.laws.clocks_read_as_they_were_seen.Goals as goal

pub returns : goal.returns
returns c = clock_at-seen
