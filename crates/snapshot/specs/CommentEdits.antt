-- What an edit of a comment does to the comments of a bug.
use Rattle.std.specs.Prelude.{◌≡◌, ◌≢◌, ℕ, List, [], ◌∷◌}
use Rattle.gb_text.specs.declared.id.Id.{Id}
use Rattle.bug_ops.specs.declared.snapshot.Comment.{Comment}

-- A comment before an edit, and after it: where its id is the target it has the message, and else it is as it was.
pub record IsEdited (target : Id) (message : List ℕ) (old new : Comment) : Type 0 where
  pub reached : old.id ≡ target → new ≡ record old { message = message }
  pub left : old.id ≢ target → new ≡ old

-- The comments before an edit, and after it: one for one, in the same order.
abbrev pub AreEdited : Id → List ℕ → List Comment → List Comment → Type 0
AreEdited target message [] news = news ≡ []
AreEdited target message (old ∷ olds) [] = ⊥
AreEdited target message (old ∷ olds) (new ∷ news) = IsEdited target message old new × AreEdited target message olds news
