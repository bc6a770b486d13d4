use Rattle.repo_steps.proofs.DamageLemmas.{not_damaged}
use Rattle.repo_steps.proofs.laws.sound_folders_are_not_damaged.Goals as goal

pub returns : goal.returns
returns c = not_damaged
