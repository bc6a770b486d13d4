use Rattle.bug_run.proofs.PackLawLemmas.{pack_keeps_heads, pack_prints}
use Rattle.bug_run.proofs.laws.packs_change_no_head.Goals as goal

pub returns-clause-heads : goal.returns-clause-heads
returns-clause-heads c = pack_keeps_heads

pub returns-clause-done : goal.returns-clause-done
returns-clause-done c = pack_prints
