use Rattle.std.proofs.Common.{rules, ◌≡◌, inl, inr, Ok, Err, refl, sym, subst}
use Rattle.gb_store.specs.Files.{History, files_of}
use Rattle.merge_steps.specs.Pulling.{PullAnswers}
use Rattle.merge_steps.specs.Stops.{stop_of_read}
use Rattle.repo_state.specs.Answers.{IsUser}
use Rattle.sync_steps.specs.Fetching.{FetchAnswers}
use Rattle.sync_steps.specs.Quiet.{NothingToFetch}
use Rattle.sync_steps.proofs.QuietLemmas.{fetch_quiet}
use Rattle.repo_merge.specs.Quiet.{IsInStep}
use Rattle.repo_merge.proofs.QuietLemmas.{WasQuiet-then, was_quiet}
use Rattle.repo_merge.proofs.ReadingLemmas.{reads_in_fetch, reads_in_merge}
use Rattle.repo_merge.proofs.pulling.pull.Goals as goal

pub returns-in_err-fetched-clause-answers : goal.returns-in_err-fetched-clause-answers
returns-in_err-fetched-clause-answers g c = λ tells.
    let history = g.S.Store.history in
    let pair = c.args.pair.now in
    let old = history c.args.disk.now in
    let new = history c.fetch.new.disk in
    let why = c.in_err-fetched.field-0.0 in
    let is : c.from_residual-in_err-fetched.result ≡ Err (stop_of_read why) = search rules in
    subst (PullAnswers pair.own pair.peer c.args.remote.now c.args.now old new) (sym is)
    (inr (inl (record {
      user = c.in-Some._user;
      is_user = subst (IsUser (files_of old) pair.own) c.in-Some.is (c.in_ok-_user.ensures.answers tells);
      stop = why;
      is_why = refl;
      ended = subst (λ (h : History). FetchAnswers pair.own pair.peer c.args.remote.now h new (Err why)) (c.user.ensures.unwritten tells) (c.in_err-fetched.ensures.answers tells);
    })))

pub returns-in_err-merged-clause-answers : goal.returns-in_err-merged-clause-answers
returns-in_err-merged-clause-answers g c = λ tells.
    let history = g.S.Store.history in
    let pair = c.args.pair.now in
    let old = history c.args.disk.now in
    let mid = history c.fetch.new.disk in
    let new = history c.merge.new.disk in
    let fetched = c.in_ok-fetched.fetched in
    let why = c.in_err-merged.field-0.0 in
    let is : c.from_residual-in_err-merged.result ≡ Err why = search rules in
    subst (PullAnswers pair.own pair.peer c.args.remote.now c.args.now old new) (sym is)
    (inr (inr (
      fetched,
      record {
        user = c.in-Some._user;
        is_user = subst (IsUser (files_of old) pair.own) c.in-Some.is (c.in_ok-_user.ensures.answers tells);
        mid = mid;
        first = subst (λ (h : History). FetchAnswers pair.own pair.peer c.args.remote.now h mid (Ok fetched)) (c.user.ensures.unwritten tells) (c.in_ok-fetched.ensures.answers tells);
        then = c.in_err-merged.ensures.answers tells;
      },
    )))

pub returns-clause-unread : goal.returns-clause-unread
returns-clause-unread g c = λ tells nothing step.
    let history = g.S.Store.history in
    let reads = g.S.Store.object_reads in
    let pair = c.args.pair.now in
    let remote = c.args.remote.now in
    let old = history c.args.disk.now in
    let one = history c.user.new.disk in
    let mid = history c.fetch.new.disk in
    let same = c.user.ensures.unwritten tells in
    let nothing_yet = subst (λ (h : History). NothingToFetch pair.own pair.peer remote (files_of h)) (sym same) nothing in
    let quiet = fetch_quiet pair.own pair.peer remote one mid c.in_ok-fetched.fetched (c.in_ok-fetched.ensures.answers tells) nothing_yet in
    let first = WasQuiet-then old one mid (reads c.args.disk.now) (reads c.user.new.disk) (reads c.fetch.new.disk)
    (was_quiet old one (reads c.args.disk.now) (reads c.user.new.disk) same c.user.ensures.reads)
    (was_quiet one mid (reads c.user.new.disk) (reads c.fetch.new.disk) quiet.1 (c.in_ok-fetched.ensures.unread quiet.0)) in
    let step_then = subst (λ (h : History). IsInStep (files_of h) pair.own remote) (sym first.same) step in
    WasQuiet-then old mid (history c.merge.new.disk) (reads c.args.disk.now) (reads c.fetch.new.disk) (reads c.merge.new.disk) first (c.merge.ensures.unread tells step_then)

pub returns-in_err-fetched-clause-reads : goal.returns-in_err-fetched-clause-reads
returns-in_err-fetched-clause-reads g c = λ tells.
    let history = g.S.Store.history in
    let reads = g.S.Store.object_reads in
    let pair = c.args.pair.now in
    reads_in_fetch pair.own pair.peer c.args.remote.now c.args.now (history c.args.disk.now) (history c.user.new.disk) (history c.fetch.new.disk) (c.user.ensures.unwritten tells)
    (reads c.args.disk.now) (reads c.user.new.disk) c.user.ensures.reads (reads c.fetch.new.disk) (c.in_err-fetched.ensures.reads tells)

pub returns-in_err-merged-clause-reads : goal.returns-in_err-merged-clause-reads
returns-in_err-merged-clause-reads g c = λ tells.
    let history = g.S.Store.history in
    let reads = g.S.Store.object_reads in
    let pair = c.args.pair.now in
    reads_in_merge pair.own pair.peer c.args.remote.now c.args.now (history c.args.disk.now) (history c.user.new.disk) (history c.fetch.new.disk) (c.user.ensures.unwritten tells)
    (reads c.args.disk.now) (reads c.user.new.disk) c.user.ensures.reads (reads c.fetch.new.disk) (reads c.merge.new.disk) (c.in_ok-fetched.ensures.reads tells) (c.merge.ensures.reads tells)

pub returns-clause-reads : goal.returns-clause-reads
returns-clause-reads g c = λ tells.
    let history = g.S.Store.history in
    let reads = g.S.Store.object_reads in
    let pair = c.args.pair.now in
    reads_in_merge pair.own pair.peer c.args.remote.now c.args.now (history c.args.disk.now) (history c.user.new.disk) (history c.fetch.new.disk) (c.user.ensures.unwritten tells)
    (reads c.args.disk.now) (reads c.user.new.disk) c.user.ensures.reads (reads c.fetch.new.disk) (reads c.merge.new.disk) (c.in_ok-fetched.ensures.reads tells) (c.merge.ensures.reads tells)
