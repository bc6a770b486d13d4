use Rattle.std.proofs.Common.{rules, ◌≡◌, ℕ, Bool, List, Ok, Err, inl, inr, refl, sym, ◌∙◌, ap, subst}
use Rattle.gb_store.specs.Files.{History, files_of}
use Rattle.listed_refs.specs.AsListed.{AreAsListed}
use Rattle.repo_state.specs.declared.refs.EntityRef.{EntityRef}
use Rattle.repo_state.specs.declared.side.Side.{Side}
use Rattle.repo_state.specs.declared.side.Side.TheVariants as side
use Rattle.repo_state.specs.declared.stop.ReadStop.{ReadStop}
use Rattle.sync_steps.specs.Fetching.{FetchAnswers, FetchStops, Fetches}
use Rattle.sync_steps.specs.Lines.{are_quiet}
use Rattle.sync_steps.specs.Places.{tracking_side}
use Rattle.sync_steps.specs.Turns.{Ended, Turn, WentOn, are_held}
use Rattle.sync_steps.specs.declared.line.EntityWord.TheVariants as word
use Rattle.sync_steps.specs.declared.line.Exchange.TheVariants as verb
use Rattle.sync_steps.specs.declared.line.Line.{Line}
use Rattle.repo_sync.specs.Listing.{IsListing}
use Rattle.repo_sync.specs.Reading.{AllFetchesRead, ReadsFetching, SomeFetchesRead}
use Rattle.repo_sync.proofs.ExchangeLemmas.{bugs_as_listed, ended_at_bug, ended_at_person, is_done, people_as_listed}
use Rattle.repo_sync.proofs.ListedLemmas.{fetches_leave}
use Rattle.repo_sync.proofs.ReadingLemmas.{fetched_all, fetched_bugs, fetched_people}
use Rattle.repo_sync.proofs.TurnLemmas.{both_unread}
use Rattle.repo_sync.proofs.fetching.fetch.Goals as goal

abbrev step : List ℕ → List ℕ → Side → Bool → Turn → History → History → Type 0
step own peer of held = Fetches own peer of

abbrev stops : List ℕ → List ℕ → Side → Bool → ReadStop → EntityRef → History → History → Type 0
stops own peer of held = FetchStops own peer of

pub returns-in_err-fetch_each-clause-answers : goal.returns-in_err-fetch_each-clause-answers
returns-in_err-fetch_each-clause-answers g c = λ tells.
    let history = g.S.Store.history in
    let own = c.args.pair.now.own in
    let peer = c.args.pair.now.peer in
    let remote = c.args.remote.now in
    let old = history c.args.disk.now in
    let one = history c.list_refs.new.disk in
    let mid = history c.fetch_each.new.disk in
    let refs = c.in_ok-refs.refs in
    let same = c.list_refs.ensures.unwritten tells in
    let people_side : side.RemoteIdentities c.in_ok-copied.field-0 ≡ side.RemoteIdentities remote = search rules in
    let bugs_side : side.RemoteBugs c.in_ok-copied-2.field-0 ≡ side.RemoteBugs remote = search rules in
    let listed = subst (λ (of : Side). IsListing (files_of old) peer own (side.RemoteIdentities remote) of refs) bugs_side
    (subst (λ (of : Side). IsListing (files_of old) peer own of (side.RemoteBugs c.in_ok-copied-2.field-0) refs) people_side (c.in_ok-refs.ensures.answers tells)) in
    let people = people_as_listed verb.Fetch (step own peer) (stops own peer) peer own (tracking_side remote) refs old one listed same in
    let why = c.in_err-fetch_each.field-0.0 in
    let is : c.from_residual-in_err-fetch_each.result ≡ Err why = search rules in
    subst (FetchAnswers own peer remote old mid) (sym is)
    (ended_at_person verb.Fetch (step own peer) (stops own peer) peer own (tracking_side remote) refs old one listed same why mid
    (subst (λ (es : List EntityRef). Ended (Fetches own peer refs.people_there.side) (FetchStops own peer refs.people_there.side) why es one mid) c.as_slice.ensures
    (c.in_err-fetch_each.ensures.answers tells (subst (AreAsListed (files_of one) own refs.people_there) (sym c.as_slice.ensures) people))))

pub returns-in_err-fetch_each-2-clause-answers : goal.returns-in_err-fetch_each-2-clause-answers
returns-in_err-fetch_each-2-clause-answers g c = λ tells.
    let history = g.S.Store.history in
    let own = c.args.pair.now.own in
    let peer = c.args.pair.now.peer in
    let remote = c.args.remote.now in
    let old = history c.args.disk.now in
    let one = history c.list_refs.new.disk in
    let mid = history c.fetch_each.new.disk in
    let refs = c.in_ok-refs.refs in
    let same = c.list_refs.ensures.unwritten tells in
    let people_side : side.RemoteIdentities c.in_ok-copied.field-0 ≡ side.RemoteIdentities remote = search rules in
    let bugs_side : side.RemoteBugs c.in_ok-copied-2.field-0 ≡ side.RemoteBugs remote = search rules in
    let listed = subst (λ (of : Side). IsListing (files_of old) peer own (side.RemoteIdentities remote) of refs) bugs_side
    (subst (λ (of : Side). IsListing (files_of old) peer own of (side.RemoteBugs c.in_ok-copied-2.field-0) refs) people_side (c.in_ok-refs.ensures.answers tells)) in
    let people = people_as_listed verb.Fetch (step own peer) (stops own peer) peer own (tracking_side remote) refs old one listed same in
    let on = subst (λ (es : List EntityRef). WentOn verb.Fetch word.Identity (Fetches own peer refs.people_there.side) es c.new-lines.result.items c.fetch_each.new.lines.items one mid) c.as_slice.ensures
    (c.in_ok-fetch_each.ensures.answers tells (subst (AreAsListed (files_of one) own refs.people_there) (sym c.as_slice.ensures) people)) in
    let new = history c.fetch_each-2.new.disk in
    let bugs = subst (AreAsListed (files_of mid) own refs.bugs_there) (sym c.as_slice-2.ensures)
    (bugs_as_listed verb.Fetch (step own peer) (stops own peer) peer own (tracking_side remote) refs old one listed same (λ e. cc) (fetches_leave own peer) c.new-lines.result.items c.fetch_each.new.lines.items c.new-lines.ensures.items mid on) in
    let why = c.in_err-fetch_each-2.field-0.0 in
    let is : c.from_residual-in_err-fetch_each-2.result ≡ Err why = search rules in
    subst (FetchAnswers own peer remote old new) (sym is)
    (ended_at_bug verb.Fetch (step own peer) (stops own peer) peer own (tracking_side remote) refs old one listed same (λ e. cc) (fetches_leave own peer) c.new-lines.result.items c.fetch_each.new.lines.items c.new-lines.ensures.items mid on
    (are_held on.turns) refl new why
    (subst (λ (es : List EntityRef). Ended (Fetches own peer refs.bugs_there.side) (FetchStops own peer refs.bugs_there.side) why es mid new) c.as_slice-2.ensures
    (c.in_err-fetch_each-2.ensures.answers tells bugs)))

pub returns-clause-answers : goal.returns-clause-answers
returns-clause-answers g c = λ tells.
    let history = g.S.Store.history in
    let own = c.args.pair.now.own in
    let peer = c.args.pair.now.peer in
    let remote = c.args.remote.now in
    let old = history c.args.disk.now in
    let one = history c.list_refs.new.disk in
    let mid = history c.fetch_each.new.disk in
    let refs = c.in_ok-refs.refs in
    let same = c.list_refs.ensures.unwritten tells in
    let people_side : side.RemoteIdentities c.in_ok-copied.field-0 ≡ side.RemoteIdentities remote = search rules in
    let bugs_side : side.RemoteBugs c.in_ok-copied-2.field-0 ≡ side.RemoteBugs remote = search rules in
    let listed = subst (λ (of : Side). IsListing (files_of old) peer own (side.RemoteIdentities remote) of refs) bugs_side
    (subst (λ (of : Side). IsListing (files_of old) peer own of (side.RemoteBugs c.in_ok-copied-2.field-0) refs) people_side (c.in_ok-refs.ensures.answers tells)) in
    let people = people_as_listed verb.Fetch (step own peer) (stops own peer) peer own (tracking_side remote) refs old one listed same in
    let on = subst (λ (es : List EntityRef). WentOn verb.Fetch word.Identity (Fetches own peer refs.people_there.side) es c.new-lines.result.items c.fetch_each.new.lines.items one mid) c.as_slice.ensures
    (c.in_ok-fetch_each.ensures.answers tells (subst (AreAsListed (files_of one) own refs.people_there) (sym c.as_slice.ensures) people)) in
    let new = history c.fetch_each-2.new.disk in
    let bugs = subst (AreAsListed (files_of mid) own refs.bugs_there) (sym c.as_slice-2.ensures)
    (bugs_as_listed verb.Fetch (step own peer) (stops own peer) peer own (tracking_side remote) refs old one listed same (λ e. cc) (fetches_leave own peer) c.new-lines.result.items c.fetch_each.new.lines.items c.new-lines.ensures.items mid on) in
    let lines : c.fetch_each-2.new.lines.items ≡ c.from_vec.result = search rules in
    subst (λ (ls : List Line). FetchAnswers own peer remote old new (Ok ls)) lines
    (is_done verb.Fetch (step own peer) (stops own peer) peer own (tracking_side remote) refs old one listed same (λ e. cc) (fetches_leave own peer) c.new-lines.result.items c.fetch_each.new.lines.items c.new-lines.ensures.items mid on
    (are_held on.turns) refl new c.fetch_each-2.new.lines.items
    (subst (λ (es : List EntityRef). WentOn verb.Fetch word.Bug (Fetches own peer refs.bugs_there.side) es c.fetch_each.new.lines.items c.fetch_each-2.new.lines.items mid new) c.as_slice-2.ensures
    (c.in_ok-fetch_each-2.ensures.answers tells bugs)))

pub returns-clause-unread : goal.returns-clause-unread
returns-clause-unread g c = λ quiet.
    let reads = g.S.Store.object_reads in
    let lines : c.fetch_each-2.new.lines.items ≡ c.from_vec.result = search rules in
    both_unread c.new-lines.result.items c.fetch_each.new.lines.items c.fetch_each-2.new.lines.items (reads c.args.disk.now) (reads c.list_refs.new.disk) (reads c.fetch_each.new.disk) (reads c.fetch_each-2.new.disk)
    c.new-lines.ensures.items c.list_refs.ensures.reads c.in_ok-fetch_each.ensures.unread c.in_ok-fetch_each-2.ensures.unread (ap are_quiet lines ∙ quiet)

pub returns-in_err-fetch_each-clause-reads : goal.returns-in_err-fetch_each-clause-reads
returns-in_err-fetch_each-clause-reads g c = λ tells.
    let history = g.S.Store.history in
    let reads = g.S.Store.object_reads in
    let own = c.args.pair.now.own in
    let peer = c.args.pair.now.peer in
    let remote = c.args.remote.now in
    let old = history c.args.disk.now in
    let one = history c.list_refs.new.disk in
    let mid = history c.fetch_each.new.disk in
    let refs = c.in_ok-refs.refs in
    let same = c.list_refs.ensures.unwritten tells in
    let people_side : side.RemoteIdentities c.in_ok-copied.field-0 ≡ side.RemoteIdentities remote = search rules in
    let bugs_side : side.RemoteBugs c.in_ok-copied-2.field-0 ≡ side.RemoteBugs remote = search rules in
    let listed = subst (λ (of : Side). IsListing (files_of old) peer own (side.RemoteIdentities remote) of refs) bugs_side
    (subst (λ (of : Side). IsListing (files_of old) peer own of (side.RemoteBugs c.in_ok-copied-2.field-0) refs) people_side (c.in_ok-refs.ensures.answers tells)) in
    let people = people_as_listed verb.Fetch (step own peer) (stops own peer) peer own (tracking_side remote) refs old one listed same in
    let why = c.in_err-fetch_each.field-0.0 in
    let is : c.from_residual-in_err-fetch_each.result ≡ Err why = search rules in
    subst (ReadsFetching own peer remote old mid (reads c.args.disk.now) (reads c.fetch_each.new.disk)) (sym is)
    (inr (inl (fetched_people own peer remote refs old one listed same (reads c.args.disk.now) (reads c.list_refs.new.disk) c.list_refs.ensures.reads (reads c.fetch_each.new.disk)
    (subst (λ (es : List EntityRef). SomeFetchesRead own peer refs.people_there.side es one (reads c.list_refs.new.disk) (reads c.fetch_each.new.disk)) c.as_slice.ensures
    (c.in_err-fetch_each.ensures.reads tells (subst (AreAsListed (files_of one) own refs.people_there) (sym c.as_slice.ensures) people))))))

pub returns-in_err-fetch_each-2-clause-reads : goal.returns-in_err-fetch_each-2-clause-reads
returns-in_err-fetch_each-2-clause-reads g c = λ tells.
    let history = g.S.Store.history in
    let reads = g.S.Store.object_reads in
    let own = c.args.pair.now.own in
    let peer = c.args.pair.now.peer in
    let remote = c.args.remote.now in
    let old = history c.args.disk.now in
    let one = history c.list_refs.new.disk in
    let mid = history c.fetch_each.new.disk in
    let refs = c.in_ok-refs.refs in
    let same = c.list_refs.ensures.unwritten tells in
    let people_side : side.RemoteIdentities c.in_ok-copied.field-0 ≡ side.RemoteIdentities remote = search rules in
    let bugs_side : side.RemoteBugs c.in_ok-copied-2.field-0 ≡ side.RemoteBugs remote = search rules in
    let listed = subst (λ (of : Side). IsListing (files_of old) peer own (side.RemoteIdentities remote) of refs) bugs_side
    (subst (λ (of : Side). IsListing (files_of old) peer own of (side.RemoteBugs c.in_ok-copied-2.field-0) refs) people_side (c.in_ok-refs.ensures.answers tells)) in
    let people = people_as_listed verb.Fetch (step own peer) (stops own peer) peer own (tracking_side remote) refs old one listed same in
    let here = subst (AreAsListed (files_of one) own refs.people_there) (sym c.as_slice.ensures) people in
    let on = subst (λ (es : List EntityRef). WentOn verb.Fetch word.Identity (Fetches own peer refs.people_there.side) es c.new-lines.result.items c.fetch_each.new.lines.items one mid) c.as_slice.ensures
    (c.in_ok-fetch_each.ensures.answers tells here) in
    let read = subst (λ (es : List EntityRef). AllFetchesRead own peer refs.people_there.side es one mid (reads c.list_refs.new.disk) (reads c.fetch_each.new.disk)) c.as_slice.ensures (c.in_ok-fetch_each.ensures.reads tells here) in
    let new = history c.fetch_each-2.new.disk in
    let bugs = subst (AreAsListed (files_of mid) own refs.bugs_there) (sym c.as_slice-2.ensures)
    (bugs_as_listed verb.Fetch (step own peer) (stops own peer) peer own (tracking_side remote) refs old one listed same (λ e. cc) (fetches_leave own peer) c.new-lines.result.items c.fetch_each.new.lines.items c.new-lines.ensures.items mid on) in
    let why = c.in_err-fetch_each-2.field-0.0 in
    let is : c.from_residual-in_err-fetch_each-2.result ≡ Err why = search rules in
    subst (ReadsFetching own peer remote old new (reads c.args.disk.now) (reads c.fetch_each-2.new.disk)) (sym is)
    (inr (inr (fetched_bugs own peer remote refs old one listed same (reads c.args.disk.now) (reads c.list_refs.new.disk) c.list_refs.ensures.reads mid (reads c.fetch_each.new.disk) read (reads c.fetch_each-2.new.disk)
    (subst (λ (es : List EntityRef). SomeFetchesRead own peer refs.bugs_there.side es mid (reads c.fetch_each.new.disk) (reads c.fetch_each-2.new.disk)) c.as_slice-2.ensures
    (c.in_err-fetch_each-2.ensures.reads tells bugs)))))

pub returns-clause-reads : goal.returns-clause-reads
returns-clause-reads g c = λ tells.
    let history = g.S.Store.history in
    let reads = g.S.Store.object_reads in
    let own = c.args.pair.now.own in
    let peer = c.args.pair.now.peer in
    let remote = c.args.remote.now in
    let old = history c.args.disk.now in
    let one = history c.list_refs.new.disk in
    let mid = history c.fetch_each.new.disk in
    let refs = c.in_ok-refs.refs in
    let same = c.list_refs.ensures.unwritten tells in
    let people_side : side.RemoteIdentities c.in_ok-copied.field-0 ≡ side.RemoteIdentities remote = search rules in
    let bugs_side : side.RemoteBugs c.in_ok-copied-2.field-0 ≡ side.RemoteBugs remote = search rules in
    let listed = subst (λ (of : Side). IsListing (files_of old) peer own (side.RemoteIdentities remote) of refs) bugs_side
    (subst (λ (of : Side). IsListing (files_of old) peer own of (side.RemoteBugs c.in_ok-copied-2.field-0) refs) people_side (c.in_ok-refs.ensures.answers tells)) in
    let people = people_as_listed verb.Fetch (step own peer) (stops own peer) peer own (tracking_side remote) refs old one listed same in
    let here = subst (AreAsListed (files_of one) own refs.people_there) (sym c.as_slice.ensures) people in
    let on = subst (λ (es : List EntityRef). WentOn verb.Fetch word.Identity (Fetches own peer refs.people_there.side) es c.new-lines.result.items c.fetch_each.new.lines.items one mid) c.as_slice.ensures
    (c.in_ok-fetch_each.ensures.answers tells here) in
    let read = subst (λ (es : List EntityRef). AllFetchesRead own peer refs.people_there.side es one mid (reads c.list_refs.new.disk) (reads c.fetch_each.new.disk)) c.as_slice.ensures (c.in_ok-fetch_each.ensures.reads tells here) in
    let new = history c.fetch_each-2.new.disk in
    let bugs = subst (AreAsListed (files_of mid) own refs.bugs_there) (sym c.as_slice-2.ensures)
    (bugs_as_listed verb.Fetch (step own peer) (stops own peer) peer own (tracking_side remote) refs old one listed same (λ e. cc) (fetches_leave own peer) c.new-lines.result.items c.fetch_each.new.lines.items c.new-lines.ensures.items mid on) in
    fetched_all own peer remote refs old one listed same (reads c.args.disk.now) (reads c.list_refs.new.disk) c.list_refs.ensures.reads mid (reads c.fetch_each.new.disk) read new (reads c.fetch_each-2.new.disk)
    (subst (λ (es : List EntityRef). AllFetchesRead own peer refs.bugs_there.side es mid new (reads c.fetch_each.new.disk) (reads c.fetch_each-2.new.disk)) c.as_slice-2.ensures
    (c.in_ok-fetch_each-2.ensures.reads tells bugs))
