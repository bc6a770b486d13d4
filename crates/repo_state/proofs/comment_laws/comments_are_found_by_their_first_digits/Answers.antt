use Rattle.repo_state.proofs.CommentLemmas.{comment_finder_is_determined}
use Rattle.repo_state.proofs.CommentWordLemmas.{finds_whole_comment, fits_comment_front, sought_front}
use Rattle.repo_state.proofs.comment_laws.comments_are_found_by_their_first_digits.Goals as goal

pub returns-clause-fits : goal.returns-clause-fits
returns-clause-fits c = λ files folder word comment is. fits_comment_front {files = files} {folder = folder} word comment is

pub returns-clause-bugs : goal.returns-clause-bugs
returns-clause-bugs c = λ files folder word id is_prefix. sought_front {files = files} {folder = folder} word id is_prefix

pub returns-clause-determined : goal.returns-clause-determined
returns-clause-determined c = λ files folder word. comment_finder_is_determined files folder word

pub returns-clause-whole : goal.returns-clause-whole
returns-clause-whole c = λ files folder comment entity is_bug is_comment whole has all alone.
    finds_whole_comment {files = files} {folder = folder} comment entity is_bug is_comment whole has all alone
