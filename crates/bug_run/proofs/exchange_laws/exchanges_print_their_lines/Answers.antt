use Rattle.bug_run.proofs.LineLemmas.{fetch_tells, merge_tells, pull_tells, push_tells}
use Rattle.bug_run.proofs.exchange_laws.exchanges_print_their_lines.Goals as goal

pub returns-clause-fetch : goal.returns-clause-fetch
returns-clause-fetch c = λ call old new before after answer pair remote tells prints. fetch_tells call old new before after answer pair tells prints remote

pub returns-clause-push : goal.returns-clause-push
returns-clause-push c = push_tells

pub returns-clause-pull : goal.returns-clause-pull
returns-clause-pull c = λ call old new before after answer pair remote tells prints. pull_tells call old new before after answer pair tells prints remote

pub returns-clause-merge : goal.returns-clause-merge
returns-clause-merge c = merge_tells
