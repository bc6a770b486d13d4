use Rattle.bug_edits.proofs.EditLemmas.{added_keeps, begun_keeps, may_follow}
use Rattle.bug_edits.proofs.laws.operations_keep_the_rules.Goals as goal

pub returns-clause-added : goal.returns-clause-added
returns-clause-added c = added_keeps

pub returns-clause-begun : goal.returns-clause-begun
returns-clause-begun c = begun_keeps

pub returns-clause-follows : goal.returns-clause-follows
returns-clause-follows c = may_follow
