use Rattle.merge_steps.proofs.DoneLemmas.{line_left}
use Rattle.merge_steps.proofs.laws.done_merges_leave_both_sides.Goals as goal

pub returns : goal.returns
returns c = λ folder remote now old new lines line moment is has ok. line_left folder remote now moment old new lines is line has ok
