use Rattle.bug_run.proofs.LineLemmas.{merge_tells, pull_tells}
use Rattle.merge_steps.proofs.RefusedLemmas.{line_refused}
use Rattle.run_moments.proofs.LineLemmas.{pull_begins, pull_refused_stays, refused_stays}
use Rattle.run_moments.proofs.refused_laws.refused_merges_have_their_cause.Goals as goal

pub returns-clause-merge : goal.returns-clause-merge
returns-clause-merge c = λ call old new before after answer request tells prints asks is has.
    let told = merge_tells call old new before after answer request tells prints asks is has in (
      told.0,
      told.1,
      told.2,
      λ line c refused. (
        line_refused request.folder request.remote call.moment.now old new told.0 told.1 line c refused,
        refused_stays request.folder request.remote call.moment.now old new told.0 told.1 line c refused,
      ),
    )

pub returns-clause-pull : goal.returns-clause-pull
returns-clause-pull c = λ call old new before after answer pair remote tells prints asks is has.
    let told = pull_tells call old new before after answer pair tells prints remote asks is has in
    let done = told.1 in (
      told.0,
      done,
      told.2,
      pull_begins call.moment pair remote old done.mid new told.0.fetched told.0.merged done.first done.then,
      λ line c refused. (
        line_refused pair.own remote call.moment.now done.mid new told.0.merged done.then line c refused,
        pull_refused_stays pair.own pair.peer remote call.moment.now old done.mid new told.0.fetched told.0.merged done.first done.then line c refused,
      ),
    )
