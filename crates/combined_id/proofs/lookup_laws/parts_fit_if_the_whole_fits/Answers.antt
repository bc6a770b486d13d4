use Rattle.combined_id.proofs.PartLemmas.{parts_fit}
use Rattle.combined_id.proofs.lookup_laws.parts_fit_if_the_whole_fits.Goals as goal

pub returns : goal.returns
returns c = parts_fit
