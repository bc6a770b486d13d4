use Rattle.repo_steps.proofs.Names.{HasBug, HasCommented, comment_growth, edit_growth, edited_comment_op, files_of}
use Rattle.repo_steps.proofs.CauseLemmas.{comment_full_clocks, comment_many_commits, only_full_clocks, only_many_commits}
use Rattle.repo_steps.proofs.ReportLemmas.{edit_refused, full_clocks_told, many_commits_told, message_refused}
use Rattle.words.specs.declared.edit.Edit.TheVariants as edit
use Rattle.std.proofs.Common.{refl}
use Rattle.repo_steps.proofs.laws.full_bugs_are_refused.Goals as goal

pub returns-clause-clock_only : goal.returns-clause-clock_only
returns-clause-clock_only c = λ env e word old. only_full_clocks env old e word

pub returns-clause-commits_only : goal.returns-clause-commits_only
returns-clause-commits_only c = λ env e word old. only_many_commits env old e word

pub returns-clause-clock : goal.returns-clause-clock
returns-clause-clock c = λ env e word old user is (bug : HasBug env.folder (files_of old) word) op adds.
    full_clocks_told env old (edit.OfBug word e) (edit_growth env e word) user is bug op adds (edit_refused env old e word bug.bug op)

pub returns-clause-commits : goal.returns-clause-commits
returns-clause-commits c = λ env e word old user is (bug : HasBug env.folder (files_of old) word) op adds.
    many_commits_told env old (edit.OfBug word e) (edit_growth env e word) user is bug op adds (edit_refused env old e word bug.bug op)

pub returns-clause-comment_clock_only : goal.returns-clause-comment_clock_only
returns-clause-comment_clock_only c = λ env message word old. comment_full_clocks env old message word

pub returns-clause-comment_commits_only : goal.returns-clause-comment_commits_only
returns-clause-comment_commits_only c = λ env message word old. comment_many_commits env old message word

pub returns-clause-comment_clock : goal.returns-clause-comment_clock
returns-clause-comment_clock c = λ env message word old user comment is (bug : HasCommented env.folder (files_of old) word comment).
    let op = edited_comment_op env.moment comment message in
    full_clocks_told env old (edit.OfComment word message) (comment_growth env message word comment) user is bug op refl (message_refused env old message word comment bug.bug op)

pub returns-clause-comment_commits : goal.returns-clause-comment_commits
returns-clause-comment_commits c = λ env message word old user comment is (bug : HasCommented env.folder (files_of old) word comment).
    let op = edited_comment_op env.moment comment message in
    many_commits_told env old (edit.OfComment word message) (comment_growth env message word comment) user is bug op refl (message_refused env old message word comment bug.bug op)
