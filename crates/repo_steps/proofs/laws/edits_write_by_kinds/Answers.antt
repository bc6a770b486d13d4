use Rattle.repo_steps.proofs.WriteOfLemmas.{answers_wrote}
use Rattle.repo_steps.proofs.laws.edits_write_by_kinds.Goals as goal

pub returns : goal.returns
returns c = answers_wrote
