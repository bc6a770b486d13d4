use Rattle.packed_refs.proofs.HeadLemmas.{last_counts, none_counts}
use Rattle.packed_refs.proofs.laws.the_last_line_counts.Goals as goal

pub returns-clause-some : goal.returns-clause-some
returns-clause-some c = last_counts

pub returns-clause-none : goal.returns-clause-none
returns-clause-none c = none_counts
