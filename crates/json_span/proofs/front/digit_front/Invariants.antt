use Rattle.std.proofs.Common.{take}
use Rattle.json_span.specs.Grammar.{Each, is_digit}
use Rattle.json_span.proofs.front.digit_front.Given as goal

abbrev pub invariant-loop-place : goal.invariant-loop-place
invariant-loop-place l = Each is_digit (take l.place l.text)
