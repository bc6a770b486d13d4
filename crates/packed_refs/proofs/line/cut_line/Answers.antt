use Rattle.std.proofs.Common.{arith}
use Rattle.std.proofs.lemmas.Grind.{common_steps}
use Rattle.packed_refs.proofs.TextLemmas.{cut_here, cut_last}
use Rattle.packed_refs.proofs.line.cut_line.Goals as goal

pub returns-then-byte-eq10-clause-lines : goal.returns-then-byte-eq10-clause-lines
returns-then-byte-eq10-clause-lines c = cut_here c.loop-i.i c.args.text.now c.loop-i-test.true c.loop-i.invariant c.if-byte-eq10.true

pub returns-clause-lines : goal.returns-clause-lines
returns-clause-lines c = cut_last c.loop-i.i c.args.text.now _ c.requires c.loop-i-test.false c.loop-i.invariant (grind (arith, common_steps))
