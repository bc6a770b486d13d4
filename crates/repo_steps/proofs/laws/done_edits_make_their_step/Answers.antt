use Rattle.repo_steps.proofs.DoneLemmas.{done_steps}
use Rattle.repo_steps.proofs.laws.done_edits_make_their_step.Goals as goal

pub returns : goal.returns
returns c = done_steps
