use Rattle.merge_steps.proofs.RefusedLemmas.{line_refused}
use Rattle.merge_steps.proofs.laws.done_merges_refuse_for_a_cause.Goals as goal

pub returns : goal.returns
returns c = λ folder remote now old new lines line is has refused. line_refused folder remote now old new lines is line has refused
