use Rattle.remote_copy.proofs.KeptLemmas.{alike, same_closure}
use Rattle.remote_copy.proofs.laws.whole_copies_are_alike.Goals as goal

pub returns-clause-same : goal.returns-clause-same
returns-clause-same c = λ source entry target head one copied. same_closure source entry target head copied one

pub returns-clause-alike : goal.returns-clause-alike
returns-clause-alike c = λ source entry target head one copied path. alike source entry target head copied one path
