use Rattle.bug_edits.proofs.EditLemmas.{nothing_is_refused, refused_as}
use Rattle.bug_edits.proofs.laws.edits_that_change_nothing_are_refused.Goals as goal

pub returns-clause-refused : goal.returns-clause-refused
returns-clause-refused c = nothing_is_refused

pub returns-clause-only : goal.returns-clause-only
returns-clause-only c = refused_as
