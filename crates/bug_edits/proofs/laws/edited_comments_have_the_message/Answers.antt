use Rattle.std.proofs.Common.{refl}
use Rattle.bug_edits.proofs.CommentEditLemmas.{comments_of_edit, edited_keeps, rest_of_edit}
use Rattle.bug_edits.proofs.laws.edited_comments_have_the_message.Goals as goal

pub returns-clause-comments : goal.returns-clause-comments
returns-clause-comments c = comments_of_edit

pub returns-clause-rest : goal.returns-clause-rest
returns-clause-rest c = rest_of_edit

pub returns-clause-anew : goal.returns-clause-anew
returns-clause-anew c = λ moment comment message. record { time = refl; nonce = refl; bare = refl; no_files = refl }

pub returns-clause-follows : goal.returns-clause-follows
returns-clause-follows c = λ moment comment message. refl

pub returns-clause-rules : goal.returns-clause-rules
returns-clause-rules c = edited_keeps
