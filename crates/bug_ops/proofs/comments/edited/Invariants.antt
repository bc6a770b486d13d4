use Rattle.std.proofs.Common.{◌≡◌, ◌++◌, length}
use Rattle.std.specs.Vec.Iter.{into_iter_items}
use Rattle.bug_ops.specs.Folds.{comments_from, comments_in}
use Rattle.bug_ops.proofs.comments.edited.Given as goal

abbrev pub invariant-loop-comment : goal.invariant-loop-comment
invariant-loop-comment l = comments_in l.edits l.fn.list ≡ l.comments.items ++ comments_from l.edits (length l.comments.items) (into_iter_items l.comment-iterator)
