use Rattle.std.proofs.Common.{◌≡◌, ◌≢◌, true, get_or, eqb, refl}
use Rattle.git_object.specs.Reading.{lines_at}
use Rattle.git_object.proofs.CutLaws.{lines_here, lines_next, lines_absent}
use Rattle.git_object.proofs.cut.cut_lines.Goals as goal
use Rattle.git_object.proofs.cut.cut_lines.Goals.{else-begins-via-then-begins+else-ends, else-begins-via-else-begins}

pub returns-then-ends : goal.returns-then-ends
returns-then-ends c = lines_here c.loop-i.i c.loop-i.begins c.args.bytes.now (lines_at true c.args.bytes.now) c.loop-i-test.true c.if-ends.true c.if-begins.true c.loop-i.invariant

pub loop-i-preserved : goal.loop-i-preserved
loop-i-preserved c =
    let byte = get_or c.args.bytes.now c.loop-i.i 0 in
    let goes_on : c.loop-i.begins ≡ true → byte ≢ 10 = elim c.else-begins.branch [
      | else-begins-via-then-begins+else-ends w ↦ λ is same. w.if-ends.false same
      | else-begins-via-else-begins w ↦ λ is. absurd cc
    ] in
    lines_next c.loop-i.i byte c.loop-i.begins (eqb byte 10) c.args.bytes.now (lines_at true c.args.bytes.now) c.loop-i-test.true refl refl goes_on c.loop-i.invariant

pub returns : goal.returns
returns c = lines_absent c.loop-i.i c.loop-i.begins c.args.bytes.now (lines_at true c.args.bytes.now) c.loop-i-test.false c.loop-i.invariant
