use Rattle.object_batch.proofs.CommitLemmas.{written_text}
use Rattle.object_batch.proofs.laws.written_commits_have_this_text.Goals as goal

pub returns : goal.returns
returns c = written_text
