use Rattle.repo_writes.proofs.PartLemmas.{authors_kept, bugs_kept, identities_kept, no_bad_ref, objects_kept, bugs_by_rows, rows_kept, tracking_kept}
use Rattle.repo_writes.proofs.part_laws.parts_say_what_they_keep.Goals as goal

pub returns-clause-objects : goal.returns-clause-objects
returns-clause-objects c = objects_kept

pub returns-clause-identities : goal.returns-clause-identities
returns-clause-identities c = identities_kept

pub returns-clause-bugs : goal.returns-clause-bugs
returns-clause-bugs c = bugs_kept

pub returns-clause-authors : goal.returns-clause-authors
returns-clause-authors c = authors_kept

pub returns-clause-tracking : goal.returns-clause-tracking
returns-clause-tracking c = tracking_kept

pub returns-clause-rows : goal.returns-clause-rows
returns-clause-rows c = rows_kept

pub returns-clause-bugs_by_rows : goal.returns-clause-bugs_by_rows
returns-clause-bugs_by_rows c = bugs_by_rows

pub returns-clause-refs : goal.returns-clause-refs
returns-clause-refs c = no_bad_ref
