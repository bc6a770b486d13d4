use Rattle.std.proofs.Common.{true, refl}
use Rattle.remote_copy.proofs.KeptLemmas.{nothing_put}
use Rattle.remote_copy.proofs.laws.heads_that_stand_are_not_copied.Goals as goal

pub returns : goal.returns
returns c = λ source target entry head old new held wrote. nothing_put true source target entry head old new (record { is_closed = refl; is_commit = refl; held = held }) wrote
