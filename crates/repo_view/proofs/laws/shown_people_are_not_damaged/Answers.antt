use Rattle.repo_view.proofs.ShownLemmas.{shown_not_damaged}
use Rattle.repo_view.proofs.laws.shown_people_are_not_damaged.Goals as goal

pub returns : goal.returns
returns c = shown_not_damaged
