use Rattle.gb_text.proofs.RuleLemmas.{line_by_controls, message_by_controls, title_by_spaces}
use Rattle.gb_text.proofs.laws.ruled_texts_by_their_characters.Goals as goal

pub returns-clause-lines : goal.returns-clause-lines
returns-clause-lines c = line_by_controls

pub returns-clause-titles : goal.returns-clause-titles
returns-clause-titles c = title_by_spaces

pub returns-clause-messages : goal.returns-clause-messages
returns-clause-messages c = message_by_controls
