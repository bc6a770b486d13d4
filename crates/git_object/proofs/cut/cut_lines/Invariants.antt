use Rattle.std.proofs.Common.{◌≡◌, true, take, drop}
use Rattle.git_object.specs.Reading.{lines_at}
use Rattle.git_object.proofs.CutLaws.{front_onto}
use Rattle.git_object.proofs.cut.cut_lines.Given as goal

abbrev pub invariant-loop-i : goal.invariant-loop-i
invariant-loop-i l = front_onto (take l.i l.bytes) (lines_at l.begins (drop l.i l.bytes)) ≡ lines_at true l.bytes
