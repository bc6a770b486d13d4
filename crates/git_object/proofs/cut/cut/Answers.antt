use Rattle.git_object.proofs.CutLaws.{cut_here, cut_absent}
use Rattle.git_object.proofs.cut.cut.Goals as goal

pub returns-then-byte-at : goal.returns-then-byte-at
returns-then-byte-at c = cut_here c.args.at c.loop-i.i c.args.bytes.now c.loop-i-test.true c.loop-i.invariant c.if-byte-at.true

pub returns : goal.returns
returns c = cut_absent c.args.at c.loop-i.i c.args.bytes.now c.loop-i-test.false c.loop-i.invariant
