use Rattle.repo_steps.proofs.Names.{files_of, user_at, create_op}
use Rattle.repo_steps.proofs.ClockOrderLemmas.{clocks_in_order}
use Rattle.repo_steps.proofs.laws.create_clocks_are_written_first.Goals as goal

pub returns : goal.returns
returns c = λ env title message op old user is create edit. clocks_in_order env (files_of old) (create_op env.moment title message) user (user_at (files_of old) env.folder) is create edit
