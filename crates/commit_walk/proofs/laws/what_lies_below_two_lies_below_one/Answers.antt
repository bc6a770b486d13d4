use Rattle.commit_walk.proofs.BelowLemmas.{below_two}
use Rattle.commit_walk.proofs.laws.what_lies_below_two_lies_below_one.Goals as goal

pub returns : goal.returns
returns c = λ objects one two name. below_two objects one two name
