use Rattle.world_texts.proofs.AskedLemmas.{asked_of_each, asked_of_is}
use Rattle.world_texts.proofs.laws.worlds_are_asked_for_by_three_numbers.Goals as goal

pub returns-clause-only : goal.returns-clause-only
returns-clause-only c = asked_of_is

pub returns-clause-each : goal.returns-clause-each
returns-clause-each c = asked_of_each
