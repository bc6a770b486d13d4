use Rattle.sync_steps.proofs.HeldLemmas.{bad_lines}
use Rattle.sync_steps.proofs.laws.bad_refs_are_told.Goals as goal

pub returns : goal.returns
returns c = λ own peer remote old new lines line done has. bad_lines own peer remote old lines new done line has
