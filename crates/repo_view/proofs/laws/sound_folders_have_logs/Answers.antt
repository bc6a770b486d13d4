use Rattle.repo_view.proofs.LawLemmas.{log_not_damaged}
use Rattle.repo_view.proofs.laws.sound_folders_have_logs.Goals as goal

pub returns : goal.returns
returns c = log_not_damaged
