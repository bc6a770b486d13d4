use Rattle.query.proofs.CuttingLemmas.{colon_decides}
use Rattle.query.proofs.cut_laws.pairs_are_cut_at_the_first_colon.Goals as goal

pub returns : goal.returns
returns c = colon_decides
