use Rattle.std.proofs.Common.{◌≡◌, Err, sym, subst, arith}
use Rattle.std.proofs.lemmas.Grind.{common_steps}
use Rattle.gb_store.specs.Writing.{WritesAnswers}
use Rattle.gb_store.proofs.WritingLemmas.{writes_stop}
use Rattle.gb_store.proofs.writes.write_all.Goals as goal

pub returns-in_err-write-clause-answers : goal.returns-in_err-write-clause-answers
returns-in_err-write-clause-answers g c = λ tells.
    let history = g.S.Store.history in
    let is : c.from_residual.result ≡ Err c.in_err-write.field-0.0 = grind (arith, common_steps) in
    subst (WritesAnswers c.args.changes.now (history c.args.disk.now) (history c.write.new.disk)) (sym is)
    (writes_stop c.args.changes.now c.loop-change.change-index c.change-item.result (history c.args.disk.now) (history c.loop-change.disk) (history c.write.new.disk) c.in_err-write.field-0.0
    (omega arith) c.change-item.is (c.loop-change.invariant.made tells) (c.in_err-write.ensures.answers tells))
