use Rattle.repo_view.proofs.ShownLemmas.{same_shown}
use Rattle.repo_view.proofs.laws.same_commits_are_shown_the_same.Goals as goal

pub returns : goal.returns
returns c = same_shown
