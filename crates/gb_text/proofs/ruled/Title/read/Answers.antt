use Rattle.gb_text.proofs.RuledLemmas.{copied_title}
use Rattle.gb_text.proofs.ruled.Title.read.Goals as goal

pub returns-clause-read : goal.returns-clause-read
returns-clause-read c = copied_title c.args.text.now _ c.in_ok-text.ensures
