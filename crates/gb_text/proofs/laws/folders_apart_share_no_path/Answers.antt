use Rattle.gb_text.proofs.PathLemmas.{Overlap-joined}
use Rattle.gb_text.proofs.laws.folders_apart_share_no_path.Goals as goal

pub returns : goal.returns
returns c = Overlap-joined
