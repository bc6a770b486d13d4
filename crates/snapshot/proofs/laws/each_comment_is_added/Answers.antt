use Rattle.snapshot.proofs.ActLemmas.{comment_added}
use Rattle.snapshot.proofs.laws.each_comment_is_added.Goals as goal

pub returns : goal.returns
returns c = comment_added
