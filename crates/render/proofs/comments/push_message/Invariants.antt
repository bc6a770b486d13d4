use Rattle.std.proofs.Common.{◌≡◌, ◌++◌, string_bytes, map, flat_map}
use Rattle.render.specs.Show.{message_line}
use Rattle.render.proofs.comments.push_message.Given as goal

abbrev pub invariant-loop-line : goal.invariant-loop-line
invariant-loop-line l = string_bytes l.text ≡ string_bytes l.fn.text ++ flat_map message_line (map (λ line. line.now) l.yielded)
