-- When two words find the same.
use Rattle.std.specs.Prelude.{ℕ, List}
use Rattle.gb_store.specs.Files.{Files}
use Rattle.repo_state.specs.Comments.{FindsComment, FindsNoComment}
use Rattle.repo_state.specs.Finds.{Finding, Finds}
use Rattle.repo_state.specs.declared.comments.CommentEntry.{CommentEntry}
use Rattle.repo_state.specs.declared.side.Side.{Side}
use Rattle.repo_state.specs.declared.stop.Missed.{Missed}

-- what one word finds on a side the other finds
abbrev pub FindsAlike : Files → List ℕ → Side → List ℕ → List ℕ → Type 0
FindsAlike files folder of word other = (finding : Finding) → Finds files folder of word finding → Finds files folder of other finding

-- and so for comments: the comment that one word finds, or why it finds none, is what the other finds
pub record FindsCommentAlike (files : Files) (folder word other : List ℕ) : Type 0 where
  pub found : (comment : CommentEntry) → FindsComment files folder word comment → FindsComment files folder other comment
  pub missed : (why : Missed) → FindsNoComment files folder word why → FindsNoComment files folder other why
