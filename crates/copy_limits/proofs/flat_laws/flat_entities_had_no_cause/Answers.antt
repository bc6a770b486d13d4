use Rattle.copy_limits.proofs.FetchLemmas.{had_none}
use Rattle.copy_limits.proofs.flat_laws.flat_entities_had_no_cause.Goals as goal

pub returns : goal.returns
returns c = λ own peer remote entry now word id head apart wrote ours theirs flat alike is at had. had_none own peer remote apart entry now wrote ours theirs alike flat word id head is at had
