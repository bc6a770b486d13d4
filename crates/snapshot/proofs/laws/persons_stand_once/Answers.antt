use Rattle.snapshot.proofs.PersonLemmas.{new_comes_last, same_persons, seen_stays, stand_once}
use Rattle.snapshot.proofs.laws.persons_stand_once.Goals as goal

pub returns-clause-once : goal.returns-clause-once
returns-clause-once c = stand_once

pub returns-clause-same : goal.returns-clause-same
returns-clause-same c = same_persons

pub returns-clause-last : goal.returns-clause-last
returns-clause-last c = new_comes_last

pub returns-clause-again : goal.returns-clause-again
returns-clause-again c = seen_stays
