use Rattle.commit_walk.proofs.BelowLemmas.{below_below}
use Rattle.commit_walk.proofs.laws.below_is_transitive.Goals as goal

pub returns : goal.returns
returns c = λ objects heads others name all below. below_below objects heads others name all below
