use Rattle.gb_store.specs.Files.{files_of}
use Rattle.bug_run.proofs.LineLemmas.{fetch_tells, merge_tells, pull_tells, push_tells}
use Rattle.bug_run.proofs.RunsLemmas.{runs_lose_nothing}
use Rattle.run_moments.proofs.AcknowledgedLemmas.{fetch_kept, merge_kept, pull_fetch_kept, push_kept}
use Rattle.run_moments.proofs.kept_laws.acknowledged_lines_survive.Goals as goal

pub returns-clause-fetch : goal.returns-clause-fetch
returns-clause-fetch c = λ folders call old mid new before after answer pair remote apart is tells prints asks run has runs.
    let told = fetch_tells call old mid before after answer pair tells prints remote asks run has in
    let kept = runs_lose_nothing folders apart pair.own is mid new runs in
    (told.0, told.1, told.2, λ line c fetched. fetch_kept pair.own pair.peer remote old mid (files_of new) told.0 told.1 kept line c fetched)

pub returns-clause-push : goal.returns-clause-push
returns-clause-push c = λ folders call old mid new before after answer pair apart is tells prints asks run has runs.
    let told = push_tells call old mid before after answer pair tells prints asks run has in
    let kept = runs_lose_nothing folders apart pair.peer is mid new runs in
    (told.0, told.1, told.2, λ line c pushed. push_kept pair.own pair.peer old mid (files_of new) told.0 told.1 kept line c pushed)

pub returns-clause-merge : goal.returns-clause-merge
returns-clause-merge c = λ folders call old mid new before after answer request apart is tells prints asks run has runs.
    let told = merge_tells call old mid before after answer request tells prints asks run has in
    let kept = runs_lose_nothing folders apart request.folder is mid new runs in
    (told.0, told.1, told.2, λ line c ok. merge_kept request.folder request.remote call.moment old mid (files_of new) told.0 told.1 kept line c ok)

pub returns-clause-pull : goal.returns-clause-pull
returns-clause-pull c = λ folders call old mid new before after answer pair remote apart is tells prints asks run has runs.
    let told = pull_tells call old mid before after answer pair tells prints remote asks run has in
    let done = told.1 in
    let kept = runs_lose_nothing folders apart pair.own is mid new runs in (
      told.0,
      done,
      told.2,
      λ line c fetched. pull_fetch_kept pair.own pair.peer remote call.moment.now old done.mid mid (files_of new) told.0.fetched told.0.merged done.first done.then kept line c fetched,
      λ line c ok. merge_kept pair.own remote call.moment done.mid mid (files_of new) told.0.merged done.then kept line c ok,
    )
