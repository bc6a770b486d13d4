use Rattle.bug_run.proofs.HeadlineLemmas.{same_printed}
use Rattle.bug_run.proofs.headline.same_commits_are_printed_the_same.Goals as goal

pub returns : goal.returns
returns c = same_printed
