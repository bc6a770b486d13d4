use Rattle.copy_limits.proofs.FetchLemmas.{fetch_limit}
use Rattle.copy_limits.proofs.exchange_laws.fetches_of_sound_folders_refuse_by_a_limit_alone.Goals as goal

pub returns : goal.returns
returns c = λ own peer remote old new lines line apart ours theirs alike done among refused. fetch_limit own peer remote apart old new ours theirs alike lines done line among refused
