use Rattle.std.proofs.Common.{refl, arith}
use Rattle.repo_edit.proofs.room.check_room.Goals as goal

pub returns-in-Ok-clause-answers : goal.returns-in-Ok-clause-answers
returns-in-Ok-clause-answers g c = λ tells.
    let counts = c.in-Ok.ensures.answers tells in
    (counts.0, omega (arith, counts.1, c.if-count.true))

pub returns-in-Ok-2-clause-answers : goal.returns-in-Ok-2-clause-answers
returns-in-Ok-2-clause-answers g c = λ tells.
    let counts = c.in-Ok.ensures.answers tells in
    (refl, counts.0, omega (arith, counts.0.within, counts.1, c.if-count.false))

pub returns-in-Ok-clause-once : goal.returns-in-Ok-clause-once
returns-in-Ok-clause-once g c = λ tells.
    let counts = c.in-Ok.ensures.answers tells in
    record { chain = counts.0; room = omega (arith, counts.1, c.if-count.true); few = omega (arith, counts.1, c.in-Ok.ensures.once) }
