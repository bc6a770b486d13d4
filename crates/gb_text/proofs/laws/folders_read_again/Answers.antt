use Rattle.gb_text.proofs.ReadBackLemmas.{folder_of-folder}
use Rattle.gb_text.proofs.laws.folders_read_again.Goals as goal

pub returns : goal.returns
returns c = folder_of-folder
