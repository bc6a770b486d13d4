use Rattle.std.proofs.Common.{◌≡◌, string_bytes, take, flat_map}
use Rattle.merge_steps.specs.MergeLines.{line_text}
use Rattle.merge_steps.proofs.text.lines_text.Given as goal

abbrev pub invariant-loop-line : goal.invariant-loop-line
invariant-loop-line l = string_bytes l.text ≡ flat_map line_text (take l.line-index l.lines)
