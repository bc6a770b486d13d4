use Rattle.std.proofs.Common.{inr, subst}
use Rattle.gb_store.specs.Files.{History}
use Rattle.bug_run.specs.Run.{CommandAnswers, env_at}
use Rattle.bug_run.proofs.top.perform.Goals as goal

pub returns-clause-answers : goal.returns-clause-answers
returns-clause-answers g c = λ tells.
    let history = g.S.Store.history in
    let request = c.args.request in
    inr (c.in_ok-look.ensures.answers tells, subst (λ (h : History). CommandAnswers (env_at c.args.moment request.folder) request.command h (history c.run_command.new.disk) c.run_command.result) (c.in_ok-look.ensures.unwritten tells) (c.run_command.ensures.answers tells))
