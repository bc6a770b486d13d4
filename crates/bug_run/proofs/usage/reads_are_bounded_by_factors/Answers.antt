use Rattle.bug_run.proofs.UsageLemmas.{comment_reads, edit_reads, log_reads, made_reads, show_reads, users_read, version_reads}
use Rattle.bug_run.proofs.usage.reads_are_bounded_by_factors.Goals as goal

pub returns-clause-users : goal.returns-clause-users
returns-clause-users c = users_read

pub returns-clause-show : goal.returns-clause-show
returns-clause-show c = show_reads

pub returns-clause-log : goal.returns-clause-log
returns-clause-log c = log_reads

pub returns-clause-edit : goal.returns-clause-edit
returns-clause-edit c = edit_reads

pub returns-clause-comment : goal.returns-clause-comment
returns-clause-comment c = comment_reads

pub returns-clause-version : goal.returns-clause-version
returns-clause-version c = version_reads

pub returns-clause-made : goal.returns-clause-made
returns-clause-made c = made_reads
