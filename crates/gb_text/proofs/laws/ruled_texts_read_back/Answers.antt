use Rattle.gb_text.proofs.RuledLemmas.{no_line, no_message, no_title, the_line, the_message, the_title}
use Rattle.gb_text.proofs.laws.ruled_texts_read_back.Goals as goal

pub returns-clause-lines : goal.returns-clause-lines
returns-clause-lines c = the_line

pub returns-clause-titles : goal.returns-clause-titles
returns-clause-titles c = the_title

pub returns-clause-messages : goal.returns-clause-messages
returns-clause-messages c = the_message

pub returns-clause-no_line : goal.returns-clause-no_line
returns-clause-no_line c = no_line

pub returns-clause-no_title : goal.returns-clause-no_title
returns-clause-no_title c = no_title

pub returns-clause-no_message : goal.returns-clause-no_message
returns-clause-no_message c = no_message
