use Rattle.copy_limits.proofs.PullLemmas.{pull_limit}
use Rattle.copy_limits.proofs.exchange_laws.pulls_of_sound_folders_fetch_but_for_a_limit.Goals as goal

pub returns : goal.returns
returns c = λ own peer remote now old new pulled line apart in_time ours theirs alike done among refused. pull_limit own peer remote now apart old new in_time ours theirs alike pulled done line among refused
