use Rattle.copy_limits.proofs.FetchLemmas.{had_limit}
use Rattle.copy_limits.proofs.exchange_laws.causes_between_sound_folders_are_limits.Goals as goal

pub returns : goal.returns
returns c = λ own peer remote entry now word id head apart wrote ours theirs alike is at had. had_limit own peer remote apart entry now wrote ours theirs alike word id head is at had
