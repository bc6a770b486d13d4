use Rattle.ref_store.proofs.MapLemmas.{set_ref_reads}
use Rattle.repo_state.specs.Sides.{ref_place}
use Rattle.repo_state.proofs.KindLemmas.{clock_at-other, clock_at-ref_write, clock_at-set, clock_at-user_write, head_at-clock_write, head_at-other_id, head_at-other_side, head_at-user_write, user_at-clock_write, user_at-other_side, user_at-ref_write, user_at-set}
use Rattle.repo_state.proofs.laws.heads_and_user_are_a_map.Goals as goal

pub returns-clause-same : goal.returns-clause-same
returns-clause-same c = λ files folder of id head. set_ref_reads files folder (ref_place of id) head

pub returns-clause-other : goal.returns-clause-other
returns-clause-other c = head_at-other_id

pub returns-clause-other_side : goal.returns-clause-other_side
returns-clause-other_side c = head_at-other_side

pub returns-clause-user : goal.returns-clause-user
returns-clause-user c = user_at-ref_write

pub returns-clause-user_by_side : goal.returns-clause-user_by_side
returns-clause-user_by_side c = user_at-other_side

pub returns-clause-set_user : goal.returns-clause-set_user
returns-clause-set_user c = user_at-set

pub returns-clause-heads : goal.returns-clause-heads
returns-clause-heads c = head_at-user_write

pub returns-clause-set_clock : goal.returns-clause-set_clock
returns-clause-set_clock c = clock_at-set

pub returns-clause-other_clock : goal.returns-clause-other_clock
returns-clause-other_clock c = clock_at-other

pub returns-clause-heads_by_clock : goal.returns-clause-heads_by_clock
returns-clause-heads_by_clock c = head_at-clock_write

pub returns-clause-user_by_clock : goal.returns-clause-user_by_clock
returns-clause-user_by_clock c = user_at-clock_write

pub returns-clause-clocks_by_head : goal.returns-clause-clocks_by_head
returns-clause-clocks_by_head c = clock_at-ref_write

pub returns-clause-clocks_by_user : goal.returns-clause-clocks_by_user
returns-clause-clocks_by_user c = clock_at-user_write
