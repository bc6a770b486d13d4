use Rattle.bug_run.proofs.HeadlineLemmas.{after_any_runs}
use Rattle.bug_run.proofs.headline.the_headline.Goals as goal

pub returns : goal.returns
returns c = after_any_runs
