-- The characters that were passed fit, and those that are left are taken as before.
use Rattle.std.proofs.Common.{◌≡◌, ◌≤◌, [], length, take, drop, chars}
use Rattle.columns.specs.Cells.{front_on}
use Rattle.columns.specs.Widths.{width}
use Rattle.columns.proofs.FrontLemmas.{size}
use Rattle.columns.proofs.front.front.Given as goal

abbrev pub invariant-loop-c : goal.invariant-loop-c
invariant-loop-c l = record {
  place : l.end ≡ size (take (length l.yielded) (chars l.text));
  wide : l.width ≡ width (take (length l.yielded) (chars l.text));
  within : l.width ≤ l.most;
  left : front_on l.most [] (chars l.text) ≡ front_on l.most (take (length l.yielded) (chars l.text)) (drop (length l.yielded) (chars l.text));
}
