use Rattle.std.proofs.Common.{◌≡◌, List, Err, Ok, sym, subst, rules, arith}
use Rattle.std.proofs.lemmas.Grind.{common_steps}
use Rattle.gb_store.specs.Files.{History, files_of}
use Rattle.gb_store.specs.Writing.{WritesAnswers}
use Rattle.gb_store.specs.declared.store.Change.{Change}
use Rattle.object_store.specs.Faults.{put_fault}
use Rattle.object_store.specs.Held.{objects_in}
use Rattle.object_batch.specs.Batches.{AllStand, BatchAnswers}
use Rattle.object_batch.proofs.PlanLemmas.{batch_held, put_made, put_refused, put_stopped}
use Rattle.object_batch.proofs.batch.put_all.Goals as goal

pub returns-in_err-changes-clause-answers : goal.returns-in_err-changes-clause-answers
returns-in_err-changes-clause-answers g c = λ tells.
    let history = g.S.Store.history in
    let is : c.from_residual.result ≡ Err c.in_err-changes.field-0.0 = grind (arith, common_steps) in
    subst (BatchAnswers c.args.folder.now c.args.texts.now (history c.args.disk.now) (history c.plan_all.new.disk)) (sym is)
    (put_refused c.args.folder.now c.args.texts.now (history c.args.disk.now) (history c.plan_all.new.disk) c.in_err-changes.field-0.0 (c.plan_all.ensures.unwritten tells)
    (c.in_err-changes.ensures.answers tells))

pub returns-in_err-write_all-clause-answers : goal.returns-in_err-write_all-clause-answers
returns-in_err-write_all-clause-answers g c = λ tells.
    let history = g.S.Store.history in
    let is : c.from_residual-in_err-write_all.result ≡ Err (put_fault c.in_err-write_all.field-0.0) = search rules in
    subst (BatchAnswers c.args.folder.now c.args.texts.now (history c.args.disk.now) (history c.write_all.new.disk)) (sym is)
    (put_stopped c.args.folder.now c.args.texts.now (history c.args.disk.now) (history c.plan_all.new.disk) (history c.write_all.new.disk) c.in_ok-changes.changes
    c.in_err-write_all.field-0.0 (c.plan_all.ensures.unwritten tells) (c.in_ok-changes.ensures.answers tells)
    (subst (λ (ws : List Change). WritesAnswers ws (history c.plan_all.new.disk) (history c.write_all.new.disk) (Err c.in_err-write_all.field-0.0)) c.as_slice.ensures
    (c.in_err-write_all.ensures.answers tells)))

pub returns-clause-answers : goal.returns-clause-answers
returns-clause-answers g c = λ tells.
    let history = g.S.Store.history in
    put_made c.args.folder.now c.args.texts.now (history c.args.disk.now) (history c.plan_all.new.disk) (history c.write_all.new.disk) c.in_ok-changes.changes
    (c.plan_all.ensures.unwritten tells) (c.in_ok-changes.ensures.answers tells)
    (subst (λ (ws : List Change). WritesAnswers ws (history c.plan_all.new.disk) (history c.write_all.new.disk) (Ok tt)) c.as_slice.ensures (c.in_ok-write_all.ensures.answers tells))

pub returns-clause-held : goal.returns-clause-held
returns-clause-held g c = λ tells.
    let made = returns-clause-answers g c tells in
    subst (λ (h : History). AllStand (objects_in (files_of h) c.args.folder.now) c.args.texts.now) (sym made.1)
    (batch_held c.args.folder.now c.args.texts.now (g.S.Store.history c.args.disk.now) made.0)
