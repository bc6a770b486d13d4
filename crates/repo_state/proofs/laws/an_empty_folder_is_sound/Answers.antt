use Rattle.repo_state.proofs.EmptyLemmas.{empty_is_sound}
use Rattle.repo_state.proofs.laws.an_empty_folder_is_sound.Goals as goal

pub returns : goal.returns
returns c = empty_is_sound
