use Rattle.repo_state.proofs.KindLemmas.{clock_at-object_put, head_at-object_put, objects-clock_write, objects-ref_write, objects-user_write, user_at-object_put}
use Rattle.repo_state.proofs.laws.objects_and_state_are_apart.Goals as goal

pub returns-clause-heads : goal.returns-clause-heads
returns-clause-heads c = head_at-object_put

pub returns-clause-user : goal.returns-clause-user
returns-clause-user c = user_at-object_put

pub returns-clause-clocks : goal.returns-clause-clocks
returns-clause-clocks c = clock_at-object_put

pub returns-clause-by_head : goal.returns-clause-by_head
returns-clause-by_head c = objects-ref_write

pub returns-clause-by_user : goal.returns-clause-by_user
returns-clause-by_user c = objects-user_write

pub returns-clause-by_clock : goal.returns-clause-by_clock
returns-clause-by_clock c = objects-clock_write
