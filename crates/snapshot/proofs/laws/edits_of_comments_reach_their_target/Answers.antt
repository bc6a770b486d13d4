use Rattle.snapshot.proofs.EditLemmas.{comments_edited, edit_keeps_rest}
use Rattle.snapshot.proofs.laws.edits_of_comments_reach_their_target.Goals as goal

pub returns-clause-comments : goal.returns-clause-comments
returns-clause-comments c = comments_edited

pub returns-clause-rest : goal.returns-clause-rest
returns-clause-rest c = edit_keeps_rest
