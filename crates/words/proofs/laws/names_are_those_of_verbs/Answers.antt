use Rattle.words.proofs.VerbLemmas.{is_named, named_by_verb, read_back, verb_named}
use Rattle.words.proofs.laws.names_are_those_of_verbs.Goals as goal

pub returns-clause-read : goal.returns-clause-read
returns-clause-read c = read_back

pub returns-clause-only : goal.returns-clause-only
returns-clause-only c = is_named

pub returns-clause-named : goal.returns-clause-named
returns-clause-named c = verb_named

pub returns-clause-each : goal.returns-clause-each
returns-clause-each c = named_by_verb
