use Rattle.repo_state.proofs.CommentWordLemmas.{longer_finds_comment, longer_finds_none, longer_finds_none_either, longer_finds_one_comment}
use Rattle.repo_state.proofs.comment_laws.longer_words_find_the_same_comment.Goals as goal

pub returns-clause-one : goal.returns-clause-one
returns-clause-one c = λ files folder word more comment other found also. longer_finds_one_comment {files = files} {folder = folder} word more comment other found also

pub returns-clause-same : goal.returns-clause-same
returns-clause-same c = λ files folder word more comment found fits. longer_finds_comment {files = files} {folder = folder} word more comment found fits

pub returns-clause-other : goal.returns-clause-other
returns-clause-other c = λ files folder word more comment found none. longer_finds_none {files = files} {folder = folder} word more comment found none

pub returns-clause-nothing : goal.returns-clause-nothing
returns-clause-nothing c = λ files folder word more some none. longer_finds_none_either {files = files} {folder = folder} word more some none
