use Rattle.repo_steps.proofs.WriteOfLemmas.{answers_wrote_of}
use Rattle.repo_steps.proofs.laws.edits_write_their_own.Goals as goal

pub returns : goal.returns
returns c = answers_wrote_of
