use Rattle.bug_run.proofs.ExchangeLemmas.{apart}
use Rattle.bug_run.proofs.ExchangeWriteLemmas.{in_time}
use Rattle.bug_run.proofs.LineLemmas.{merge_tells, pull_tells}
use Rattle.operation_origins.proofs.LimitMergeLemmas.{line_limit}
use Rattle.operation_origins.proofs.LimitPullLemmas.{pulled_limit}
use Rattle.operation_origins.proofs.limit_run_laws.runs_refuse_bugs_by_a_limit_alone.Goals as goal

pub returns-clause-merge : goal.returns-clause-merge
returns-clause-merge c = λ call old new before after answer request tells prints asks is has sound once tracked known.
    let told = merge_tells call old new before after answer request tells prints asks is has in (
      told.0,
      told.1,
      told.2,
      λ line why mine invalid. line_limit request.folder request.remote call.moment.now (in_time call.moment) old new told.0 told.1 sound once tracked known line why mine invalid,
    )

pub returns-clause-pull : goal.returns-clause-pull
returns-clause-pull c = λ call old new before after answer pair remote tells prints asks is has sound.
    let told = pull_tells call old new before after answer pair tells prints remote asks is has in (
      told.0,
      told.1,
      told.2,
      λ once tracked known line why mine invalid.
          pulled_limit pair.own pair.peer remote call.moment.now (in_time call.moment) old new told.0 (apart pair) sound told.1 once tracked known line why mine invalid,
    )
