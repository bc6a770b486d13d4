use Rattle.repo_steps.proofs.RankLemmas.{told_in_order}
use Rattle.repo_steps.proofs.laws.refusals_are_told_in_order.Goals as goal

pub returns : goal.returns
returns c = told_in_order
