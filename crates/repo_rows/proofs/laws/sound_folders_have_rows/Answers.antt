use Rattle.repo_rows.proofs.LawLemmas.{sound_undamaged}
use Rattle.repo_rows.proofs.laws.sound_folders_have_rows.Goals as goal

pub returns : goal.returns
returns c = sound_undamaged
