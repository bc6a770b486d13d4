use Rattle.merge_steps.proofs.LineJoinLemmas.{line_joined, line_refused}
use Rattle.merge_steps.proofs.line_laws.lines_of_bugs_are_joins.Goals as goal

pub returns-clause-joined : goal.returns-clause-joined
returns-clause-joined c = λ folder remote now old new lines line moment done has bug ok.
    line_joined folder remote now old new lines done moment line has bug ok

pub returns-clause-refused : goal.returns-clause-refused
returns-clause-refused c = λ folder remote now old new lines line why done has bug is.
    line_refused folder remote now old new lines done line why has bug is
