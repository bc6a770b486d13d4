use Rattle.sync_steps.proofs.HeldLemmas.{held_lines}
use Rattle.sync_steps.proofs.laws.bugs_are_held_for_damaged_identities.Goals as goal

pub returns : goal.returns
returns c = λ own peer old new lines line done has. held_lines own peer lines old new done line has
