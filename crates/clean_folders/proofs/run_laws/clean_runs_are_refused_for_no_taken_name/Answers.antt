use Rattle.std.proofs.Common.{true, refl, subst}
use Rattle.words.specs.Words.{asked_of}
use Rattle.bug_run.specs.Run.{RunAnswers, call_of}
use Rattle.bug_run.specs.declared.status.Status.{Status}
use Rattle.operation_origins.proofs.OnceLemmas.{before_sound}
use Rattle.clean_folders.proofs.NameLemmas.{merge_run_not_taken, pull_run_not_taken}
use Rattle.clean_folders.proofs.run_laws.clean_runs_are_refused_for_no_taken_name.Goals as goal

pub returns-clause-merge : goal.returns-clause-merge
returns-clause-merge c = λ folders old new request name apart runs run asks is one_each refused.
    let call = call_of true run.sink_tells run.takes_memory (asked_of run.words) run.moment in
    merge_run_not_taken call old run.end run.before run.after name refl request asks (before_sound folders apart old runs request.folder is) one_each
    (subst (λ (answer : Status). RunAnswers call old run.end run.before run.after answer) refused run.answers)

pub returns-clause-pull : goal.returns-clause-pull
returns-clause-pull c = λ folders old new pair remote name apart runs run asks own one_each refused.
    let call = call_of true run.sink_tells run.takes_memory (asked_of run.words) run.moment in
    pull_run_not_taken call old run.end run.before run.after name refl pair remote asks (before_sound folders apart old runs pair.own own) one_each
    (subst (λ (answer : Status). RunAnswers call old run.end run.before run.after answer) refused run.answers)
