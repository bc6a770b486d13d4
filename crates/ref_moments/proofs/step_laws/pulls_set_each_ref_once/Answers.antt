use Rattle.ref_moments.proofs.PullLemmas.{pull_once}
use Rattle.ref_moments.proofs.step_laws.pulls_set_each_ref_once.Goals as goal

pub returns : goal.returns
returns c = λ own peer remote now old new result of id answers is_id. pull_once own peer remote now of id is_id old new result answers
