use Rattle.bug_edits.proofs.ReadLemmas.{counted_edits_give, name_back, name_is, only_counted_edits}
use Rattle.bug_edits.proofs.read_laws.only_these_are_edits.Goals as goal

pub returns-clause-named : goal.returns-clause-named
returns-clause-named c = only_counted_edits

pub returns-clause-each : goal.returns-clause-each
returns-clause-each c = counted_edits_give

pub returns-clause-read : goal.returns-clause-read
returns-clause-read c = name_back

pub returns-clause-only : goal.returns-clause-only
returns-clause-only c = name_is
