use Rattle.std.proofs.Common.{◌≡◌, Result, Err, sym, subst, rules}
use Rattle.object_store.specs.Held.{objects_after}
use Rattle.remote_copy.specs.Copies.{StartAnswers}
use Rattle.remote_copy.specs.declared.fault.CopyFault.{CopyFault}
use Rattle.remote_copy.specs.declared.work.Work.{Work}
use Rattle.remote_copy.proofs.StartLemmas.{start_refused, started}
use Rattle.remote_copy.proofs.closure.start.Goals as goal

pub returns-in_err-found-clause-answers : goal.returns-in_err-found-clause-answers
returns-in_err-found-clause-answers g c = λ tells.
    let source = objects_after (g.S.Store.history c.args.disk.now) c.args.source.now in
    let target = objects_after (g.S.Store.history c.args.disk.now) c.args.target.now in
    let e : CopyFault = c.in_err-found.field-0.0 in
    let is : c.from_residual.result ≡ Err e = search rules in
    subst (λ (r : Result Work CopyFault). StartAnswers c.args.closed source target c.args.head.now r) (sym is)
    (start_refused c.args.closed source target c.args.head.now e (c.in_err-found.ensures.answers tells))

pub returns-clause-answers : goal.returns-clause-answers
returns-clause-answers g c = λ tells.
    let source = objects_after (g.S.Store.history c.args.disk.now) c.args.source.now in
    let target = objects_after (g.S.Store.history c.args.disk.now) c.args.target.now in
    started c.args.closed source target c.args.head.now c.new-work.result c.enter.new.self c.in_ok-found.found c.new-work.ensures (c.in_ok-found.ensures.answers tells) c.in_ok-enter.ensures
