use Rattle.std.proofs.Common.{[]}
use Rattle.bug_run.proofs.RunsLemmas.{runs_from_nothing}
use Rattle.exchange_runs.proofs.AmongLemmas.{are_runs, seen_among}
use Rattle.exchange_runs.proofs.laws.runs_see_what_is_there.Goals as goal

pub returns : goal.returns
returns c = λ folders new apart runs one_text. (runs_from_nothing folders apart new (are_runs folders [] new runs), seen_among folders apart new runs one_text)
