use Rattle.remote_copy.proofs.LimitLemmas.{bytes, commits, numbers, others, trees}
use Rattle.remote_copy.proofs.laws.copies_tell_what_is_too_large.Goals as goal

pub returns-clause-numbers : goal.returns-clause-numbers
returns-clause-numbers c = numbers

pub returns-clause-bytes : goal.returns-clause-bytes
returns-clause-bytes c = bytes

pub returns-clause-commits : goal.returns-clause-commits
returns-clause-commits c = commits

pub returns-clause-others : goal.returns-clause-others
returns-clause-others c = others

pub returns-clause-trees : goal.returns-clause-trees
returns-clause-trees c = trees
