use Rattle.gb_text.proofs.PrefixLemmas.{whole_text, whole_text_fits}
use Rattle.gb_text.proofs.prefix_laws.whole_texts_fit_one_id.Goals as goal

pub returns-clause-reads : goal.returns-clause-reads
returns-clause-reads c = whole_text

pub returns-clause-fits : goal.returns-clause-fits
returns-clause-fits c = whole_text_fits
