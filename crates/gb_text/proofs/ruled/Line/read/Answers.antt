use Rattle.gb_text.proofs.RuledLemmas.{copied_line}
use Rattle.gb_text.proofs.ruled.Line.read.Goals as goal

pub returns-clause-read : goal.returns-clause-read
returns-clause-read c = copied_line c.args.text.now _ c.in_ok-text.ensures
