use Rattle.identity_runs.proofs.PeopleLemmas.{all_people, people_then}
use Rattle.identity_runs.proofs.seen_laws.people_last_seen_have_no_fault.Goals as goal

pub returns-clause-run : goal.returns-clause-run
returns-clause-run c = λ folders old new apart run takes sound one_text people. people_then folders apart old new run takes sound one_text people

pub returns-clause-runs : goal.returns-clause-runs
returns-clause-runs c = λ folders new apart runs one_text. all_people folders apart new runs one_text
