use Rattle.bug_edits.proofs.ReadLemmas.{row_named}
use Rattle.bug_edits.proofs.read_laws.edits_are_read_as_their_rows_say.Goals as goal

pub returns : goal.returns
returns c = row_named
