use Rattle.std.proofs.Common.{refl, true}
use Rattle.words.specs.Words.{asked_of}
use Rattle.bug_run.specs.Run.{Call, call_of}
use Rattle.ref_moments.specs.Once.{IsOldOrNew}
use Rattle.ref_moments.proofs.MomentLemmas.{AllMoments-cut, old_or_new, once_cut}
use Rattle.run_moments.proofs.OnceLemmas.{among_is, run_once}
use Rattle.run_moments.proofs.moment_laws.stopped_runs_leave_each_ref_old_or_new.Goals as goal

pub returns-clause-moments : goal.returns-clause-moments
returns-clause-moments c = λ call old new before after answer folder of id tells place is_id is.
    old_or_new folder of id old new (run_once of id is_id old new call before after answer tells is folder place)

pub returns-clause-stopped : goal.returns-clause-stopped
returns-clause-stopped c = λ folders old new folder of id apart is is_id run.
    let call : Call = call_of true run.sink_tells run.takes_memory (asked_of run.words) run.moment in
    let once = run_once of id is_id old run.end call run.before run.after run.status refl run.answers folder (among_is folders apart folder is (asked_of run.words) run.place) in (
      AllMoments-cut (IsOldOrNew folder of id old run.end) old run.end new (old_or_new folder of id old run.end once) run.stop,
      once_cut folder of id old run.end once new run.stop,
    )
