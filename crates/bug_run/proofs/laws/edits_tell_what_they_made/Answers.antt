use Rattle.bug_run.proofs.AnswerLemmas.{tells_its_id}
use Rattle.bug_run.proofs.laws.edits_tell_what_they_made.Goals as goal

pub returns : goal.returns
returns c = tells_its_id
