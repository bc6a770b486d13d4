use Rattle.bug_edits.proofs.EditLemmas.{else_kept}
use Rattle.bug_edits.proofs.laws.edits_keep_all_else.Goals as goal

pub returns : goal.returns
returns c = else_kept
