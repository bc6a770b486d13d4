use Rattle.std.proofs.Common.{take}
use Rattle.json_span.specs.Grammar.{Each, is_space}
use Rattle.json_span.proofs.front.space_front.Given as goal

abbrev pub invariant-loop-place : goal.invariant-loop-place
invariant-loop-place l = Each is_space (take l.place l.text)
