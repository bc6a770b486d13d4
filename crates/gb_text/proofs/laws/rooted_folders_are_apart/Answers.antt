use Rattle.gb_text.proofs.PathLemmas.{Overlap-rooted}
use Rattle.gb_text.proofs.laws.rooted_folders_are_apart.Goals as goal

pub returns : goal.returns
returns c = Overlap-rooted
