use Rattle.std.proofs.Common.{rules, ◌≡◌, true, false, Ok, Err, sym, subst}
use Rattle.repo_steps.specs.declared.refusal.Stop.TheVariants as stop
use Rattle.repo_sync.proofs.ReadingLemmas.{any_fetch}
use Rattle.sync_steps.proofs.QuietLemmas.{fetch_quiet, push_quiet}
use Rattle.words.specs.declared.words.PeerCommand.{PeerCommand}
use Rattle.bug_run.specs.Exchanges.{ReadsExchange}
use Rattle.bug_run.proofs.ReadLemmas.{fetch_stopped, pull_answered, pull_stopped}
use Rattle.bug_run.proofs.exchange.exchange_lines.Goals as goal

pub returns-in_ok-lines-in-Fetch-2-clause-reads : goal.returns-in_ok-lines-in-Fetch-2-clause-reads
returns-in_ok-lines-in-Fetch-2-clause-reads g c = λ tells.
    let pair = c.args.request.now.pair in
    let old = g.S.Store.history c.args.disk.now in
    let new = g.S.Store.history c.fetch.new.disk in
    let lines = c.in_ok-lines-in-Fetch.lines in
    subst (λ (command : PeerCommand). ReadsExchange command pair c.args.now old (true ≡ true) (g.S.Store.object_reads c.args.disk.now) (g.S.Store.object_reads c.fetch.new.disk)) (sym c.in-Fetch.is) (
      (λ ok nothing. c.in_ok-lines-in-Fetch.ensures.unread
          (fetch_quiet pair.own pair.peer c.in-Fetch.remote old new lines (c.in_ok-lines-in-Fetch.ensures.answers tells) nothing).0),
      any_fetch pair.own pair.peer c.in-Fetch.remote old new (g.S.Store.object_reads c.args.disk.now) (g.S.Store.object_reads c.fetch.new.disk) (Ok lines) (c.in_ok-lines-in-Fetch.ensures.reads tells),
    )

pub returns-in_ok-lines-in-Push-2-clause-reads : goal.returns-in_ok-lines-in-Push-2-clause-reads
returns-in_ok-lines-in-Push-2-clause-reads g c = λ tells.
    let pair = c.args.request.now.pair in
    let old = g.S.Store.history c.args.disk.now in
    let new = g.S.Store.history c.push.new.disk in
    let lines = c.in_ok-lines-in-Push.lines in
    subst (λ (command : PeerCommand). ReadsExchange command pair c.args.now old (true ≡ true) (g.S.Store.object_reads c.args.disk.now) (g.S.Store.object_reads c.push.new.disk)) (sym c.in-Push.is)
    (λ ok nothing. c.in_ok-lines-in-Push.ensures.unread
    (push_quiet pair.own pair.peer old new lines (c.in_ok-lines-in-Push.ensures.answers tells) nothing).0)

pub returns-in_err-lines-in-Fetch-2-clause-reads : goal.returns-in_err-lines-in-Fetch-2-clause-reads
returns-in_err-lines-in-Fetch-2-clause-reads g c = λ tells.
    let pair = c.args.request.now.pair in
    let old = g.S.Store.history c.args.disk.now in
    let new = g.S.Store.history c.fetch.new.disk in
    let before = g.S.Store.object_reads c.args.disk.now in
    let after = g.S.Store.object_reads c.fetch.new.disk in
    let is : c.from_residual-in_err-lines-in-Fetch-2.result ≡ Err stop.Memory = search rules in
    fetch_stopped c.args.request.now.command c.in-Fetch.remote pair c.args.now old before after c.from_residual-in_err-lines-in-Fetch-2.result stop.Memory c.in-Fetch.is is
    (any_fetch pair.own pair.peer c.in-Fetch.remote old new before after (Ok c.in_ok-lines-in-Fetch.lines) (c.in_ok-lines-in-Fetch.ensures.reads tells))

pub returns-in_err-pulled-in-Ok-clause-reads : goal.returns-in_err-pulled-in-Ok-clause-reads
returns-in_err-pulled-in-Ok-clause-reads g c = λ tells.
    let is : c.from_residual-in_err-pulled-in-Ok.result ≡ Err stop.Memory = search rules in
    pull_stopped c.args.request.now.command c.in-Pull.remote c.args.request.now.pair c.args.now (g.S.Store.history c.args.disk.now) (g.S.Store.object_reads c.args.disk.now) (g.S.Store.object_reads c.pull.new.disk)
    c.from_residual-in_err-pulled-in-Ok.result stop.Memory c.in-Pull.is is (c.pull.ensures.reads tells)

pub returns-in_ok-pulled-in-Ok-clause-reads : goal.returns-in_ok-pulled-in-Ok-clause-reads
returns-in_ok-pulled-in-Ok-clause-reads g c = λ tells.
    pull_answered c.args.request.now.command c.in-Pull.remote c.args.request.now.pair c.args.now (g.S.Store.history c.args.disk.now) (g.S.Store.object_reads c.args.disk.now) (g.S.Store.object_reads c.pull.new.disk)
    (true ≡ true) c.in-Pull.is (λ has nothing step. (c.in-Ok.ensures.unread tells nothing step).unread) (c.pull.ensures.reads tells)

pub returns-in-Err-clause-reads : goal.returns-in-Err-clause-reads
returns-in-Err-clause-reads g c = λ tells.
    pull_answered c.args.request.now.command c.in-Pull.remote c.args.request.now.pair c.args.now (g.S.Store.history c.args.disk.now) (g.S.Store.object_reads c.args.disk.now) (g.S.Store.object_reads c.pull.new.disk)
    (false ≡ true) c.in-Pull.is (λ ok. absurd (cc ok)) (c.pull.ensures.reads tells)
