use Rattle.gb_text.proofs.RuledLemmas.{copied_message}
use Rattle.gb_text.proofs.ruled.Message.read.Goals as goal

pub returns-clause-read : goal.returns-clause-read
returns-clause-read c = copied_message c.args.text.now _ c.in_ok-text.ensures
