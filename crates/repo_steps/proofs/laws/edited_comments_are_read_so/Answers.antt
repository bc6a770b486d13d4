use Rattle.repo_steps.proofs.GrownLemmas.{comment_says}
use Rattle.repo_steps.proofs.laws.edited_comments_are_read_so.Goals as goal

pub returns : goal.returns
returns c = comment_says
