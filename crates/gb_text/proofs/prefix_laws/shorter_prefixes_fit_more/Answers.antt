use Rattle.gb_text.proofs.PrefixLemmas.{shorter_fits}
use Rattle.gb_text.proofs.prefix_laws.shorter_prefixes_fit_more.Goals as goal

pub returns : goal.returns
returns c = shorter_fits
