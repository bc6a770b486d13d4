use Rattle.std.proofs.Common.{rules, ◌≡◌, arith, List, Err, inl, refl, sym, subst}
use Rattle.gb_store.specs.Files.{files_of}
use Rattle.repo_state.specs.declared.side.Side.TheVariants as side
use Rattle.repo_state.specs.declared.refs.EntityRef.{EntityRef}
use Rattle.sync_steps.specs.declared.line.EntityWord.TheVariants as word
use Rattle.merge_steps.specs.Merging.{BugStops, MergeTurn, MergesBug, MergesPerson, PersonStops}
use Rattle.merge_steps.specs.Stops.{stop_of_store, stop_of_turn}
use Rattle.merge_steps.specs.Turns.{Ended, IsMerged, MergeAnswers, WentOn}
use Rattle.merge_steps.specs.declared.line.MergeLine.{MergeLine}
use Rattle.repo_merge.specs.Reading.{AllBugsRead, AllPeopleRead, BugRead, ReadsBug, SomeBugsRead, SomePeopleRead}
use Rattle.repo_merge.proofs.FaultLemmas.{disk_of_store, disk_of_turn, kept, not_failed, store_failed, three_then, turn_failed}
use Rattle.repo_merge.proofs.MergeLemmas.{bugs_here, ended_at_bug, ended_at_person, ended_between, is_merged, people_here}
use Rattle.repo_merge.proofs.QuietLemmas.{WasQuiet-then, are_known, known_quiet, was_quiet}
use Rattle.repo_sync.proofs.ReadingLemmas.{SomeRead-all}
use Rattle.repo_merge.proofs.ReadingLemmas.{reads_at_bug, reads_at_person, reads_between}
use Rattle.repo_merge.proofs.merging.merge.Goals as goal

pub returns-in_err-merge_people-clause-answers : goal.returns-in_err-merge_people-clause-answers
returns-in_err-merge_people-clause-answers g c = λ tells.
    let history = g.S.Store.history in
    let folder = c.args.folder.now in
    let remote = c.args.remote.now in
    let now = c.args.now in
    let listing = c.in_ok-listing.listing in
    let old = history c.args.disk.now in
    let one = history c.list_tracked.new.disk in
    let mid = history c.merge_people.new.disk in
    let listed = c.in_ok-listing.ensures.answers tells in
    let same = c.list_tracked.ensures.unwritten tells in
    let why = c.in_err-merge_people.field-0.0 in
    let is : c.from_residual-in_err-merge_people.result ≡ Err (stop_of_turn why) = search rules in
    subst (MergeAnswers folder remote now old mid) (sym is)
    (ended_at_person folder remote now listing old one listed same why mid
    (subst (λ (refs : List EntityRef). Ended (MergesPerson folder) (PersonStops folder listing.people_side) why refs one mid) c.as_slice.ensures (c.in_err-merge_people.ensures.answers tells (people_here folder remote now listing old one listed same c.as_slice.result.now c.as_slice.ensures))))

pub returns-in_err-locals-clause-answers : goal.returns-in_err-locals-clause-answers
returns-in_err-locals-clause-answers g c = λ tells.
    let history = g.S.Store.history in
    let folder = c.args.folder.now in
    let remote = c.args.remote.now in
    let now = c.args.now in
    let listing = c.in_ok-listing.listing in
    let old = history c.args.disk.now in
    let one = history c.list_tracked.new.disk in
    let mid = history c.merge_people.new.disk in
    let listed = c.in_ok-listing.ensures.answers tells in
    let same = c.list_tracked.ensures.unwritten tells in
    let on = subst (λ (refs : List EntityRef). WentOn (MergesPerson folder) word.Identity refs c.new-lines.result.items c.merge_people.new.lines.items one mid) c.as_slice.ensures (c.in_ok-merge_people.ensures.answers tells (people_here folder remote now listing old one listed same c.as_slice.result.now c.as_slice.ensures)) in
    let two = history c.list_locals.new.disk in
    let fault = c.in_err-locals.field-0.0 in
    let is : c.from_residual-in_err-locals.result ≡ Err (stop_of_store fault) = search rules in
    subst (MergeAnswers folder remote now old two) (sym is)
    (ended_between folder remote now listing old one listed same c.new-lines.result.items c.merge_people.new.lines.items c.new-lines.ensures.items mid two on (c.list_locals.ensures.unwritten tells) fault)

pub returns-in_err-merge_bugs-clause-answers : goal.returns-in_err-merge_bugs-clause-answers
returns-in_err-merge_bugs-clause-answers g c = λ tells.
    let history = g.S.Store.history in
    let folder = c.args.folder.now in
    let remote = c.args.remote.now in
    let now = c.args.now in
    let listing = c.in_ok-listing.listing in
    let old = history c.args.disk.now in
    let one = history c.list_tracked.new.disk in
    let mid = history c.merge_people.new.disk in
    let listed = c.in_ok-listing.ensures.answers tells in
    let same = c.list_tracked.ensures.unwritten tells in
    let on = subst (λ (refs : List EntityRef). WentOn (MergesPerson folder) word.Identity refs c.new-lines.result.items c.merge_people.new.lines.items one mid) c.as_slice.ensures (c.in_ok-merge_people.ensures.answers tells (people_here folder remote now listing old one listed same c.as_slice.result.now c.as_slice.ensures)) in
    let two = history c.list_locals.new.disk in
    let locals = c.in_ok-locals.locals in
    let authors = locals.authors in
    let new = history c.merge_bugs.new.disk in
    let why = c.in_err-merge_bugs.field-0.0 in
    let is : c.from_residual-in_err-merge_bugs.result ≡ Err (stop_of_turn why) = search rules in
    subst (MergeAnswers folder remote now old new) (sym is)
    (ended_at_bug folder remote now listing old one listed same c.new-lines.result.items c.merge_people.new.lines.items c.new-lines.ensures.items mid two on (c.list_locals.ensures.unwritten tells)
    authors (c.in_ok-locals.ensures.answers tells).are_authors new why
    (subst (λ (refs : List EntityRef). Ended (MergesBug folder listing.user authors now) (BugStops folder listing.user authors now listing.bugs_side) why refs two new) c.as_slice-2.ensures
    (c.in_err-merge_bugs.ensures.answers tells (bugs_here folder remote now listing old one listed same mid two (c.list_locals.ensures.unwritten tells) locals (c.in_ok-locals.ensures.answers tells) c.as_slice-2.result.now c.as_slice-2.ensures))))

pub returns-clause-answers : goal.returns-clause-answers
returns-clause-answers g c = λ tells.
    let history = g.S.Store.history in
    let folder = c.args.folder.now in
    let remote = c.args.remote.now in
    let now = c.args.now in
    let listing = c.in_ok-listing.listing in
    let old = history c.args.disk.now in
    let one = history c.list_tracked.new.disk in
    let mid = history c.merge_people.new.disk in
    let listed = c.in_ok-listing.ensures.answers tells in
    let same = c.list_tracked.ensures.unwritten tells in
    let on = subst (λ (refs : List EntityRef). WentOn (MergesPerson folder) word.Identity refs c.new-lines.result.items c.merge_people.new.lines.items one mid) c.as_slice.ensures (c.in_ok-merge_people.ensures.answers tells (people_here folder remote now listing old one listed same c.as_slice.result.now c.as_slice.ensures)) in
    let two = history c.list_locals.new.disk in
    let locals = c.in_ok-locals.locals in
    let authors = locals.authors in
    let new = history c.merge_bugs.new.disk in
    let lines : c.merge_bugs.new.lines.items ≡ c.from_vec.result = search rules in
    subst (λ (ls : List MergeLine). IsMerged folder remote now ls old new) lines
    (is_merged folder remote now listing old one listed same c.new-lines.result.items c.merge_people.new.lines.items c.new-lines.ensures.items mid two on (c.list_locals.ensures.unwritten tells)
    authors (c.in_ok-locals.ensures.answers tells).are_authors new c.merge_bugs.new.lines.items
    (subst (λ (refs : List EntityRef). WentOn (MergesBug folder listing.user authors now) word.Bug refs c.merge_people.new.lines.items c.merge_bugs.new.lines.items two new) c.as_slice-2.ensures
    (c.in_ok-merge_bugs.ensures.answers tells (bugs_here folder remote now listing old one listed same mid two (c.list_locals.ensures.unwritten tells) locals (c.in_ok-locals.ensures.answers tells) c.as_slice-2.result.now c.as_slice-2.ensures))))

pub returns-in_err-merge_people-clause-unread : goal.returns-in_err-merge_people-clause-unread
returns-in_err-merge_people-clause-unread g c = λ tells step.
    let history = g.S.Store.history in
    let reads = g.S.Store.object_reads in
    let folder = c.args.folder.now in
    let remote = c.args.remote.now in
    let now = c.args.now in
    let listing = c.in_ok-listing.listing in
    let old = history c.args.disk.now in
    let one = history c.list_tracked.new.disk in
    let mid = history c.merge_people.new.disk in
    let listed = c.in_ok-listing.ensures.answers tells in
    let same = c.list_tracked.ensures.unwritten tells in
    let people = are_known (files_of old) folder (side.RemoteIdentities remote) side.Identities listing.people listed.are_people step.people in
    let first = known_quiet folder side.Identities c.as_slice.result.now listing.people old one mid (reads c.args.disk.now) (reads c.list_tracked.new.disk) (reads c.merge_people.new.disk) c.as_slice.ensures people
    (was_quiet old one (reads c.args.disk.now) (reads c.list_tracked.new.disk) (c.list_tracked.ensures.unwritten tells) c.list_tracked.ensures.reads) (c.merge_people.ensures.unread tells (people_here folder remote now listing old one listed same c.as_slice.result.now c.as_slice.ensures)) in
    first

pub returns-in_err-locals-clause-unread : goal.returns-in_err-locals-clause-unread
returns-in_err-locals-clause-unread g c = λ tells step.
    let history = g.S.Store.history in
    let reads = g.S.Store.object_reads in
    let folder = c.args.folder.now in
    let remote = c.args.remote.now in
    let now = c.args.now in
    let listing = c.in_ok-listing.listing in
    let old = history c.args.disk.now in
    let one = history c.list_tracked.new.disk in
    let mid = history c.merge_people.new.disk in
    let listed = c.in_ok-listing.ensures.answers tells in
    let same = c.list_tracked.ensures.unwritten tells in
    let people = are_known (files_of old) folder (side.RemoteIdentities remote) side.Identities listing.people listed.are_people step.people in
    let first = known_quiet folder side.Identities c.as_slice.result.now listing.people old one mid (reads c.args.disk.now) (reads c.list_tracked.new.disk) (reads c.merge_people.new.disk) c.as_slice.ensures people
    (was_quiet old one (reads c.args.disk.now) (reads c.list_tracked.new.disk) (c.list_tracked.ensures.unwritten tells) c.list_tracked.ensures.reads) (c.merge_people.ensures.unread tells (people_here folder remote now listing old one listed same c.as_slice.result.now c.as_slice.ensures)) in
    let two = history c.list_locals.new.disk in
    let then = WasQuiet-then old mid two (reads c.args.disk.now) (reads c.merge_people.new.disk) (reads c.list_locals.new.disk) first
    (was_quiet mid two (reads c.merge_people.new.disk) (reads c.list_locals.new.disk) (c.list_locals.ensures.unwritten tells) c.list_locals.ensures.reads) in
    then

pub returns-in_err-merge_bugs-clause-unread : goal.returns-in_err-merge_bugs-clause-unread
returns-in_err-merge_bugs-clause-unread g c = λ tells step.
    let history = g.S.Store.history in
    let reads = g.S.Store.object_reads in
    let folder = c.args.folder.now in
    let remote = c.args.remote.now in
    let now = c.args.now in
    let listing = c.in_ok-listing.listing in
    let old = history c.args.disk.now in
    let one = history c.list_tracked.new.disk in
    let mid = history c.merge_people.new.disk in
    let listed = c.in_ok-listing.ensures.answers tells in
    let same = c.list_tracked.ensures.unwritten tells in
    let people = are_known (files_of old) folder (side.RemoteIdentities remote) side.Identities listing.people listed.are_people step.people in
    let first = known_quiet folder side.Identities c.as_slice.result.now listing.people old one mid (reads c.args.disk.now) (reads c.list_tracked.new.disk) (reads c.merge_people.new.disk) c.as_slice.ensures people
    (was_quiet old one (reads c.args.disk.now) (reads c.list_tracked.new.disk) (c.list_tracked.ensures.unwritten tells) c.list_tracked.ensures.reads) (c.merge_people.ensures.unread tells (people_here folder remote now listing old one listed same c.as_slice.result.now c.as_slice.ensures)) in
    let two = history c.list_locals.new.disk in
    let then = WasQuiet-then old mid two (reads c.args.disk.now) (reads c.merge_people.new.disk) (reads c.list_locals.new.disk) first
    (was_quiet mid two (reads c.merge_people.new.disk) (reads c.list_locals.new.disk) (c.list_locals.ensures.unwritten tells) c.list_locals.ensures.reads) in
    let locals = c.in_ok-locals.locals in
    let bugs = are_known (files_of old) folder (side.RemoteBugs remote) side.Bugs listing.bugs listed.are_bugs step.bugs in
    known_quiet folder side.Bugs c.as_slice-2.result.now listing.bugs old two (history c.merge_bugs.new.disk) (reads c.args.disk.now) (reads c.list_locals.new.disk) (reads c.merge_bugs.new.disk) c.as_slice-2.ensures bugs
    then (c.merge_bugs.ensures.unread tells (bugs_here folder remote now listing old one listed same mid two (c.list_locals.ensures.unwritten tells) locals (c.in_ok-locals.ensures.answers tells) c.as_slice-2.result.now c.as_slice-2.ensures))

pub returns-clause-unread : goal.returns-clause-unread
returns-clause-unread g c = λ tells step.
    let history = g.S.Store.history in
    let reads = g.S.Store.object_reads in
    let folder = c.args.folder.now in
    let remote = c.args.remote.now in
    let now = c.args.now in
    let listing = c.in_ok-listing.listing in
    let old = history c.args.disk.now in
    let one = history c.list_tracked.new.disk in
    let mid = history c.merge_people.new.disk in
    let listed = c.in_ok-listing.ensures.answers tells in
    let same = c.list_tracked.ensures.unwritten tells in
    let people = are_known (files_of old) folder (side.RemoteIdentities remote) side.Identities listing.people listed.are_people step.people in
    let first = known_quiet folder side.Identities c.as_slice.result.now listing.people old one mid (reads c.args.disk.now) (reads c.list_tracked.new.disk) (reads c.merge_people.new.disk) c.as_slice.ensures people
    (was_quiet old one (reads c.args.disk.now) (reads c.list_tracked.new.disk) (c.list_tracked.ensures.unwritten tells) c.list_tracked.ensures.reads) (c.merge_people.ensures.unread tells (people_here folder remote now listing old one listed same c.as_slice.result.now c.as_slice.ensures)) in
    let two = history c.list_locals.new.disk in
    let then = WasQuiet-then old mid two (reads c.args.disk.now) (reads c.merge_people.new.disk) (reads c.list_locals.new.disk) first
    (was_quiet mid two (reads c.merge_people.new.disk) (reads c.list_locals.new.disk) (c.list_locals.ensures.unwritten tells) c.list_locals.ensures.reads) in
    let locals = c.in_ok-locals.locals in
    let bugs = are_known (files_of old) folder (side.RemoteBugs remote) side.Bugs listing.bugs listed.are_bugs step.bugs in
    known_quiet folder side.Bugs c.as_slice-2.result.now listing.bugs old two (history c.merge_bugs.new.disk) (reads c.args.disk.now) (reads c.list_locals.new.disk) (reads c.merge_bugs.new.disk) c.as_slice-2.ensures bugs
    then (c.merge_bugs.ensures.unread tells (bugs_here folder remote now listing old one listed same mid two (c.list_locals.ensures.unwritten tells) locals (c.in_ok-locals.ensures.answers tells) c.as_slice-2.result.now c.as_slice-2.ensures))

pub returns-in_err-locals-clause-caused : goal.returns-in_err-locals-clause-caused
returns-in_err-locals-clause-caused g c =
    let never_fails = g.S.Store.never_fails in
    let faults = g.S.Store.faults in
    let fault = c.in_err-locals.field-0.0 in
    let is : c.from_residual-in_err-locals.result ≡ Err (stop_of_store fault) = search rules in
    three_then never_fails faults _ _ c.args.disk.now c.list_tracked.new.disk c.merge_people.new.disk c.merge_people.new.disk c.list_locals.new.disk
    (not_failed never_fails faults _ c.args.disk.now c.list_tracked.new.disk c.in_ok-listing.ensures.caused (λ fails. cc))
    (not_failed never_fails faults _ c.list_tracked.new.disk c.merge_people.new.disk c.in_ok-merge_people.ensures.caused (λ fails. cc))
    (kept never_fails faults c.merge_people.new.disk)
    c.in_err-locals.ensures.caused (store_failed c.from_residual-in_err-locals.result (Err fault) fault is refl) (disk_of_store c.from_residual-in_err-locals.result (Err fault) fault is refl)

pub returns-in_err-merge_bugs-clause-caused : goal.returns-in_err-merge_bugs-clause-caused
returns-in_err-merge_bugs-clause-caused g c =
    let never_fails = g.S.Store.never_fails in
    let faults = g.S.Store.faults in
    let why = c.in_err-merge_bugs.field-0.0 in
    let is : c.from_residual-in_err-merge_bugs.result ≡ Err (stop_of_turn why) = search rules in
    three_then never_fails faults _ _ c.args.disk.now c.list_tracked.new.disk c.merge_people.new.disk c.list_locals.new.disk c.merge_bugs.new.disk
    (not_failed never_fails faults _ c.args.disk.now c.list_tracked.new.disk c.in_ok-listing.ensures.caused (λ fails. cc))
    (not_failed never_fails faults _ c.list_tracked.new.disk c.merge_people.new.disk c.in_ok-merge_people.ensures.caused (λ fails. cc))
    (not_failed never_fails faults _ c.merge_people.new.disk c.list_locals.new.disk c.in_ok-locals.ensures.caused (λ fails. cc))
    c.in_err-merge_bugs.ensures.caused (turn_failed c.from_residual-in_err-merge_bugs.result (Err why) why is refl) (disk_of_turn c.from_residual-in_err-merge_bugs.result (Err why) why is refl)

pub returns-in_err-listing-clause-reads : goal.returns-in_err-listing-clause-reads
returns-in_err-listing-clause-reads g c = λ tells. inl (omega (arith, c.list_tracked.ensures.reads))

pub returns-in_err-merge_people-clause-reads : goal.returns-in_err-merge_people-clause-reads
returns-in_err-merge_people-clause-reads g c = λ tells.
    let history = g.S.Store.history in
    let reads = g.S.Store.object_reads in
    let folder = c.args.folder.now in
    let remote = c.args.remote.now in
    let now = c.args.now in
    let listing = c.in_ok-listing.listing in
    let old = history c.args.disk.now in
    let one = history c.list_tracked.new.disk in
    let mid = history c.merge_people.new.disk in
    let listed = c.in_ok-listing.ensures.answers tells in
    let same = c.list_tracked.ensures.unwritten tells in
    reads_at_person folder remote now listing old one listed same (reads c.args.disk.now) (reads c.list_tracked.new.disk) c.list_tracked.ensures.reads (reads c.merge_people.new.disk)
    (subst (λ (refs : List EntityRef). SomePeopleRead folder refs one (reads c.list_tracked.new.disk) (reads c.merge_people.new.disk)) c.as_slice.ensures
    (c.in_err-merge_people.ensures.reads tells (people_here folder remote now listing old one listed same c.as_slice.result.now c.as_slice.ensures)))

pub returns-in_err-locals-clause-reads : goal.returns-in_err-locals-clause-reads
returns-in_err-locals-clause-reads g c = λ tells.
    let history = g.S.Store.history in
    let reads = g.S.Store.object_reads in
    let folder = c.args.folder.now in
    let remote = c.args.remote.now in
    let now = c.args.now in
    let listing = c.in_ok-listing.listing in
    let old = history c.args.disk.now in
    let one = history c.list_tracked.new.disk in
    let mid = history c.merge_people.new.disk in
    let listed = c.in_ok-listing.ensures.answers tells in
    let same = c.list_tracked.ensures.unwritten tells in
    let read = subst (λ (refs : List EntityRef). AllPeopleRead folder refs one mid (reads c.list_tracked.new.disk) (reads c.merge_people.new.disk)) c.as_slice.ensures
    (c.in_ok-merge_people.ensures.reads tells (people_here folder remote now listing old one listed same c.as_slice.result.now c.as_slice.ensures)) in
    let two = history c.list_locals.new.disk in
    reads_between folder remote now listing old one listed same (reads c.args.disk.now) (reads c.list_tracked.new.disk) c.list_tracked.ensures.reads
    mid two (reads c.merge_people.new.disk) (reads c.list_locals.new.disk) read (c.list_locals.ensures.unwritten tells) c.list_locals.ensures.reads

pub returns-in_err-merge_bugs-clause-reads : goal.returns-in_err-merge_bugs-clause-reads
returns-in_err-merge_bugs-clause-reads g c = λ tells.
    let history = g.S.Store.history in
    let reads = g.S.Store.object_reads in
    let folder = c.args.folder.now in
    let remote = c.args.remote.now in
    let now = c.args.now in
    let listing = c.in_ok-listing.listing in
    let old = history c.args.disk.now in
    let one = history c.list_tracked.new.disk in
    let mid = history c.merge_people.new.disk in
    let listed = c.in_ok-listing.ensures.answers tells in
    let same = c.list_tracked.ensures.unwritten tells in
    let read = subst (λ (refs : List EntityRef). AllPeopleRead folder refs one mid (reads c.list_tracked.new.disk) (reads c.merge_people.new.disk)) c.as_slice.ensures
    (c.in_ok-merge_people.ensures.reads tells (people_here folder remote now listing old one listed same c.as_slice.result.now c.as_slice.ensures)) in
    let two = history c.list_locals.new.disk in
    let locals = c.in_ok-locals.locals in
    reads_at_bug folder remote now listing old one listed same (reads c.args.disk.now) (reads c.list_tracked.new.disk) c.list_tracked.ensures.reads
    mid two (reads c.merge_people.new.disk) (reads c.list_locals.new.disk) read (c.list_locals.ensures.unwritten tells) c.list_locals.ensures.reads
    locals.authors (c.in_ok-locals.ensures.answers tells).are_authors (reads c.merge_bugs.new.disk)
    (subst (λ (refs : List EntityRef). SomeBugsRead folder listing.user locals.authors now refs two (reads c.list_locals.new.disk) (reads c.merge_bugs.new.disk)) c.as_slice-2.ensures
    (c.in_err-merge_bugs.ensures.reads tells (bugs_here folder remote now listing old one listed same mid two (c.list_locals.ensures.unwritten tells) locals (c.in_ok-locals.ensures.answers tells) c.as_slice-2.result.now c.as_slice-2.ensures)))

pub returns-clause-reads : goal.returns-clause-reads
returns-clause-reads g c = λ tells.
    let history = g.S.Store.history in
    let reads = g.S.Store.object_reads in
    let folder = c.args.folder.now in
    let remote = c.args.remote.now in
    let now = c.args.now in
    let listing = c.in_ok-listing.listing in
    let old = history c.args.disk.now in
    let one = history c.list_tracked.new.disk in
    let mid = history c.merge_people.new.disk in
    let listed = c.in_ok-listing.ensures.answers tells in
    let same = c.list_tracked.ensures.unwritten tells in
    let read = subst (λ (refs : List EntityRef). AllPeopleRead folder refs one mid (reads c.list_tracked.new.disk) (reads c.merge_people.new.disk)) c.as_slice.ensures
    (c.in_ok-merge_people.ensures.reads tells (people_here folder remote now listing old one listed same c.as_slice.result.now c.as_slice.ensures)) in
    let two = history c.list_locals.new.disk in
    let locals = c.in_ok-locals.locals in
    let new = history c.merge_bugs.new.disk in
    let all = subst (λ (refs : List EntityRef). AllBugsRead folder listing.user locals.authors now refs two new (reads c.list_locals.new.disk) (reads c.merge_bugs.new.disk)) c.as_slice-2.ensures
    (c.in_ok-merge_bugs.ensures.reads tells (bugs_here folder remote now listing old one listed same mid two (c.list_locals.ensures.unwritten tells) locals (c.in_ok-locals.ensures.answers tells) c.as_slice-2.result.now c.as_slice-2.ensures)) in
    reads_at_bug folder remote now listing old one listed same (reads c.args.disk.now) (reads c.list_tracked.new.disk) c.list_tracked.ensures.reads
    mid two (reads c.merge_people.new.disk) (reads c.list_locals.new.disk) read (c.list_locals.ensures.unwritten tells) c.list_locals.ensures.reads
    locals.authors (c.in_ok-locals.ensures.answers tells).are_authors (reads c.merge_bugs.new.disk)
    (SomeRead-all (λ (turn : MergeTurn). turn.entity) (BugRead folder listing.user locals.authors now) (ReadsBug folder) listing.bugs two new (reads c.list_locals.new.disk) (reads c.merge_bugs.new.disk) (reads c.merge_bugs.new.disk) all (omega arith))
