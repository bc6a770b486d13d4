use Rattle.identity_runs.proofs.PeopleLemmas.{all_authors, authors_then}
use Rattle.identity_runs.proofs.seen_laws.authors_of_tracked_bugs_are_known.Goals as goal

pub returns-clause-run : goal.returns-clause-run
returns-clause-run c = λ folders old new apart run takes flat sound one_text people known folder remote is.
    authors_then folders apart old new run takes sound one_text people folder remote is flat (known folder remote is)

pub returns-clause-runs : goal.returns-clause-runs
returns-clause-runs c = λ folders new apart runs one_text. all_authors folders apart new runs one_text
