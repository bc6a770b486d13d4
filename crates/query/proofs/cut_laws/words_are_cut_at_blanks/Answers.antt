use Rattle.query.proofs.CuttingLemmas.{words_are_cut}
use Rattle.query.proofs.cut_laws.words_are_cut_at_blanks.Goals as goal

pub returns : goal.returns
returns c = words_are_cut
