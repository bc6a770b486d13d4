use Rattle.words.proofs.ExchangeLemmas.{fetch, fetch_unnamed, pull, pull_unnamed}
use Rattle.words.proofs.MergeLemmas.{merge, merge_unnamed}
use Rattle.words.proofs.laws.peer_commands_ask_for_what_they_name.Goals as goal

pub returns-clause-fetch : goal.returns-clause-fetch
returns-clause-fetch c = fetch

pub returns-clause-unnamed : goal.returns-clause-unnamed
returns-clause-unnamed c = fetch_unnamed

pub returns-clause-pull : goal.returns-clause-pull
returns-clause-pull c = pull

pub returns-clause-pull_unnamed : goal.returns-clause-pull_unnamed
returns-clause-pull_unnamed c = pull_unnamed

pub returns-clause-merge : goal.returns-clause-merge
returns-clause-merge c = merge

pub returns-clause-merge_unnamed : goal.returns-clause-merge_unnamed
returns-clause-merge_unnamed c = merge_unnamed
