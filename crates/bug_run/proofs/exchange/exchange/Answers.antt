use Rattle.std.proofs.Common.{inr, subst}
use Rattle.gb_store.specs.Files.{History}
use Rattle.bug_run.specs.Exchanges.{ExchangeAnswers}
use Rattle.bug_run.proofs.exchange.exchange.Goals as goal

pub returns-clause-answers : goal.returns-clause-answers
returns-clause-answers g c = λ tells.
    let history = g.S.Store.history in
    let request = c.args.request.now in
    inr (c.in_ok-look_at_pair.ensures.answers tells, subst (λ (h : History). ExchangeAnswers request.command request.pair c.args.moment.now h (history c.exchange_lines.new.disk) c.exchange_lines.result) (c.in_ok-look_at_pair.ensures.unwritten tells) (c.exchange_lines.ensures.answers tells))
