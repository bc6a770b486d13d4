use Rattle.std.proofs.Common.{◌≡◌, List, ℕ, Result, Err, rules, sym, subst}
use Rattle.gb_store.specs.Files.{History, files_of}
use Rattle.repo_state.specs.Bugs.{BugRefused, FindsBug, ReadsBelow}
use Rattle.repo_state.specs.Stops.{find_of_read}
use Rattle.repo_state.specs.declared.stop.FindStop.{FindStop}
use Rattle.repo_view.specs.Log.{IsLog, LogAnswers}
use Rattle.repo_view.proofs.AnswerLemmas.{log_reads, no_log}
use Rattle.repo_view.proofs.bug_log.log.Goals as goal

pub returns-in_err-log_of-clause-answers : goal.returns-in_err-log_of-clause-answers
returns-in_err-log_of-clause-answers g c = λ tells.
    let files = files_of (g.S.Store.history c.args.disk.now) in
    let bug = c.in_ok-bug.bug in
    let s = c.in_err-log_of.field-0.0 in
    let refused : BugRefused files c.args.folder.now bug s =
    subst (λ (h : History). BugRefused (files_of h) c.args.folder.now bug s) (c.in_ok-bug.ensures.unwritten tells) (c.in_err-log_of.ensures.answers tells) in
    let answer : Result (List ℕ) FindStop = Err (find_of_read s) in
    let is : c.from_residual-in_err-log_of.result ≡ answer = search rules in
    subst (LogAnswers files c.args.folder.now c.args.bug.now) (sym is) (no_log files c.args.folder.now c.args.bug.now bug (c.in_ok-bug.ensures.answers tells) s refused)

pub returns-in_err-log_of-clause-reads : goal.returns-in_err-log_of-clause-reads
returns-in_err-log_of-clause-reads g c = λ tells.
    let bug = c.in_ok-bug.bug in
    let new = g.S.Store.object_reads c.log_of.new.disk in
    let found = g.S.Store.object_reads c.find_head.new.disk in
    log_reads (files_of (g.S.Store.history c.args.disk.now)) c.args.folder.now c.args.bug.now bug (c.in_ok-bug.ensures.answers tells) (g.S.Store.object_reads c.args.disk.now) found new
    c.in_ok-bug.ensures.reads (subst (λ (h : History). ReadsBelow (files_of h) c.args.folder.now bug found new) (c.in_ok-bug.ensures.unwritten tells) (c.in_err-log_of.ensures.reads tells))

pub returns-clause-answers : goal.returns-clause-answers
returns-clause-answers g c = λ tells.
    let bug = c.in_ok-bug.bug in
    let finds : FindsBug (files_of (g.S.Store.history c.args.disk.now)) c.args.folder.now c.args.bug.now bug = c.in_ok-bug.ensures.answers tells in
    (bug, finds, subst (λ (h : History). IsLog (files_of h) c.args.folder.now bug c.in_ok-log_of.field-0) (c.in_ok-bug.ensures.unwritten tells) (c.in_ok-log_of.ensures.answers tells))

pub returns-clause-reads : goal.returns-clause-reads
returns-clause-reads g c = λ tells.
    let bug = c.in_ok-bug.bug in
    let new = g.S.Store.object_reads c.log_of.new.disk in
    let found = g.S.Store.object_reads c.find_head.new.disk in
    log_reads (files_of (g.S.Store.history c.args.disk.now)) c.args.folder.now c.args.bug.now bug (c.in_ok-bug.ensures.answers tells) (g.S.Store.object_reads c.args.disk.now) found new
    c.in_ok-bug.ensures.reads (subst (λ (h : History). ReadsBelow (files_of h) c.args.folder.now bug found new) (c.in_ok-bug.ensures.unwritten tells) (c.in_ok-log_of.ensures.reads tells))
