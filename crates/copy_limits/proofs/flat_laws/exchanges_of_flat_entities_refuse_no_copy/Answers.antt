use Rattle.copy_limits.proofs.FetchLemmas.{fetch_none}
use Rattle.copy_limits.proofs.PullLemmas.{pull_none}
use Rattle.copy_limits.proofs.PushLemmas.{push_beside}
use Rattle.copy_limits.proofs.flat_laws.exchanges_of_flat_entities_refuse_no_copy.Goals as goal

pub returns-clause-fetch : goal.returns-clause-fetch
returns-clause-fetch c = λ own peer remote old new lines line apart ours theirs flat alike done among refused. fetch_none own peer remote apart old new ours theirs alike lines done line among flat refused

pub returns-clause-push : goal.returns-clause-push
returns-clause-push c = λ own peer old new lines line apart ours theirs flat alike done among refused. push_beside own peer apart old new ours theirs alike lines done flat line among refused

pub returns-clause-pull : goal.returns-clause-pull
returns-clause-pull c = λ own peer remote now old new pulled line apart in_time ours theirs flat alike done among refused. pull_none own peer remote now apart old new in_time ours theirs alike pulled done flat line among refused
