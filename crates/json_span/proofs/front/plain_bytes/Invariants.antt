use Rattle.std.proofs.Common.{take}
use Rattle.json_span.specs.Grammar.{Each, is_plain}
use Rattle.json_span.proofs.front.plain_bytes.Given as goal

abbrev pub invariant-loop-place : goal.invariant-loop-place
invariant-loop-place l = Each is_plain (take l.place l.text)
