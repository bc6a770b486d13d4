use Rattle.commit_walk.proofs.BelowLemmas.{same_commits}
use Rattle.commit_walk.proofs.laws.walks_have_the_same_commits.Goals as goal

pub returns : goal.returns
returns c = λ objects heads others one two first second same met. same_commits objects heads others one two first second same met
