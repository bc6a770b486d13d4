use Rattle.std.proofs.Common.{inr, subst}
use Rattle.gb_store.specs.Files.{History}
use Rattle.bug_run.specs.Run.{ListTold}
use Rattle.bug_run.proofs.list.list.Goals as goal

pub returns-clause-answers : goal.returns-clause-answers
returns-clause-answers g c = λ tells.
    let history = g.S.Store.history in
    inr (c.in_ok-look.ensures.answers tells, subst (λ (h : History). ListTold c.args.request.now h (history c.list_found.new.disk) c.list_found.result) (c.in_ok-look.ensures.unwritten tells) (c.list_found.ensures.answers tells))
