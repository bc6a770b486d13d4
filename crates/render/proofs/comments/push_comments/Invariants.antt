use Rattle.std.proofs.Common.{◌≡◌, ◌++◌, string_bytes, take, flat_map}
use Rattle.render.specs.Show.{comment_lines}
use Rattle.render.proofs.comments.push_comments.Given as goal

abbrev pub invariant-loop-comment : goal.invariant-loop-comment
invariant-loop-comment l = string_bytes l.text ≡ string_bytes l.fn.text ++ flat_map (comment_lines l.names l.bug) (take l.comment-index l.list)
