use Rattle.gb_text.proofs.PathLemmas.{joined-rest}
use Rattle.gb_text.proofs.laws.paths_keep_their_rest.Goals as goal

pub returns : goal.returns
returns c = joined-rest
