use Rattle.words.proofs.ArgumentLemmas.{all_plain, one_refused, one_separator, shape_of}
use Rattle.words.proofs.laws.only_these_arguments_are_taken.Goals as goal

pub returns-clause-plain : goal.returns-clause-plain
returns-clause-plain c = all_plain

pub returns-clause-separated : goal.returns-clause-separated
returns-clause-separated c = one_separator

pub returns-clause-refused : goal.returns-clause-refused
returns-clause-refused c = one_refused

pub returns-clause-each : goal.returns-clause-each
returns-clause-each c = shape_of
