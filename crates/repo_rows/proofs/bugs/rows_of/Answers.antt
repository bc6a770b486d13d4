use Rattle.std.proofs.Common.{◌≡◌, ◌+◌, ◌∷◌, [], ◌++◌, Vec, Global, Result, Err, get_or, take, rules, sym, subst, arith}
use Rattle.std.proofs.lemmas.Grind.{common_steps}
use Rattle.bug_ops.specs.declared.snapshot.Excerpt.{Excerpt}
use Rattle.gb_store.specs.Files.{files_of}
use Rattle.gb_store.proofs.FaultLemmas.{KeepsFaults_then}
use Rattle.gb_store.proofs.MomentLemmas.{Wrote-then}
use Rattle.ref_store.specs.declared.listing.RefEntry.{RefEntry}
use Rattle.ref_store.specs.declared.listing.RefFound.TheVariants as found
use Rattle.repo_state.specs.declared.side.Side.TheVariants as side
use Rattle.repo_state.specs.declared.stop.ReadStop.{ReadStop}
use Rattle.repo_writes.specs.Kinds.{IsRowWrite}
use Rattle.repo_rows.specs.Reading.{AreRowsOf, RowsOf}
use Rattle.repo_rows.proofs.FrameLemmas.{of_a_bug, refs_stay, rows_leave_bugs}
use Rattle.repo_rows.proofs.ReadLemmas.{reads_first, reads_more, reads_stop, rest_more}
use Rattle.repo_rows.proofs.RowLemmas.{next_stands, rows_more, rows_stop}
use Rattle.repo_rows.proofs.bugs.rows_of.Goals as goal

none : RefEntry
none = record { id = record { bytes = [] }; found = found.Head (record { bytes = [] }) }

pub loop-entry-preserved : goal.loop-entry-preserved
unfolding none
loop-entry-preserved g c =
    let row = c.in_ok-row_of.field-0 in
    let pushed : c.push.new.self.items ≡ c.loop-entry.rows.items ++ row ∷ [] = grind (arith, common_steps) in
    let folder = c.args.folder.now in
    let bugs = c.args.bugs.now in
    let k = c.loop-entry.entry-index in
    let old = g.S.Store.history c.args.disk.now in
    let mid = g.S.Store.history c.loop-entry.disk in
    let new = g.S.Store.history c.row_of.new.disk in
    record {
      are = λ tells listed refs.
          let first = c.loop-entry.invariant.wrote tells listed refs in
          let now = refs_stay folder (files_of old) (files_of mid) (rows_leave_bugs folder old mid first) side.Identities c.args.identities.now listed in
          let stands = next_stands folder old mid new bugs refs first k none c.loop-entry-test.true in
          subst (AreRowsOf folder (files_of old) (files_of new) (take (k + 1) bugs)) (sym pushed)
          (rows_more folder old mid new bugs refs first k none c.loop-entry-test.true c.loop-entry.rows.items row (c.loop-entry.invariant.are tells listed refs) (c.in_ok-row_of.ensures.answers tells now stands)
          (c.in_ok-row_of.ensures.stored tells) (c.in_ok-row_of.ensures.wrote tells now stands));
      wrote = λ tells listed refs.
          let first = c.loop-entry.invariant.wrote tells listed refs in
          let now = refs_stay folder (files_of old) (files_of mid) (rows_leave_bugs folder old mid first) side.Identities c.args.identities.now listed in
          let stands = next_stands folder old mid new bugs refs first k none c.loop-entry-test.true in
          Wrote-then (IsRowWrite folder) old mid new first (of_a_bug folder (get_or bugs k none).id mid new (c.in_ok-row_of.ensures.wrote tells now stands));
      rest = λ tells listed refs.
          let first = c.loop-entry.invariant.wrote tells listed refs in
          let now = refs_stay folder (files_of old) (files_of mid) (rows_leave_bugs folder old mid first) side.Identities c.args.identities.now listed in
          let stands = next_stands folder old mid new bugs refs first k none c.loop-entry-test.true in
          rest_more folder old mid new bugs refs first k none c.loop-entry-test.true (c.loop-entry.invariant.rest tells listed refs) (c.in_ok-row_of.ensures.wrote tells now stands);
      reads = λ tells listed refs.
          let first = c.loop-entry.invariant.wrote tells listed refs in
          let now = refs_stay folder (files_of old) (files_of mid) (rows_leave_bugs folder old mid first) side.Identities c.args.identities.now listed in
          let stands = next_stands folder old mid new bugs refs first k none c.loop-entry-test.true in
          let found = c.in_ok-row_of.ensures.answers tells now stands in
          reads_more folder old mid new bugs refs first k none c.loop-entry-test.true (g.S.Store.object_reads c.args.disk.now) (g.S.Store.object_reads c.loop-entry.disk) (g.S.Store.object_reads c.row_of.new.disk) found.0 found.1
          (c.loop-entry.invariant.rest tells listed refs) (c.loop-entry.invariant.reads tells listed refs) (c.in_ok-row_of.ensures.reads tells);
      caused = KeepsFaults_then g.S.Store.never_fails g.S.Store.faults _ ⊥ c.args.disk.now c.loop-entry.disk c.row_of.new.disk c.loop-entry.invariant.caused c.in_ok-row_of.ensures.caused (λ none. absurd none) (λ fails. absurd (cc));
    }

pub returns-in_err-row_of-clause-answers : goal.returns-in_err-row_of-clause-answers
unfolding none
returns-in_err-row_of-clause-answers g c = λ tells listed refs.
    let folder = c.args.folder.now in
    let bugs = c.args.bugs.now in
    let k = c.loop-entry.entry-index in
    let old = g.S.Store.history c.args.disk.now in
    let mid = g.S.Store.history c.loop-entry.disk in
    let new = g.S.Store.history c.row_of.new.disk in
    let first = c.loop-entry.invariant.wrote tells listed refs in
    let now = refs_stay folder (files_of old) (files_of mid) (rows_leave_bugs folder old mid first) side.Identities c.args.identities.now listed in
    let stands = next_stands folder old mid new bugs refs first k none c.loop-entry-test.true in
    let is : c.from_residual.result ≡ Err c.in_err-row_of.field-0.0 = search rules in
    subst (λ (r : Result (Vec Excerpt Global) ReadStop). RowsOf folder (files_of old) (files_of new) bugs r) (sym is)
    (rows_stop folder old mid new bugs refs first k none c.loop-entry-test.true c.in_err-row_of.field-0.0 (c.in_err-row_of.ensures.answers tells now stands))

pub returns-in_err-row_of-clause-wrote : goal.returns-in_err-row_of-clause-wrote
unfolding none
returns-in_err-row_of-clause-wrote g c = λ tells listed refs.
    let folder = c.args.folder.now in
    let bugs = c.args.bugs.now in
    let k = c.loop-entry.entry-index in
    let old = g.S.Store.history c.args.disk.now in
    let mid = g.S.Store.history c.loop-entry.disk in
    let new = g.S.Store.history c.row_of.new.disk in
    let first = c.loop-entry.invariant.wrote tells listed refs in
    let now = refs_stay folder (files_of old) (files_of mid) (rows_leave_bugs folder old mid first) side.Identities c.args.identities.now listed in
    let stands = next_stands folder old mid new bugs refs first k none c.loop-entry-test.true in
    Wrote-then (IsRowWrite folder) old mid new first (of_a_bug folder (get_or bugs k none).id mid new (c.in_err-row_of.ensures.wrote tells now stands))

pub returns-in_err-push-clause-wrote : goal.returns-in_err-push-clause-wrote
unfolding none
returns-in_err-push-clause-wrote g c = λ tells listed refs.
    let folder = c.args.folder.now in
    let bugs = c.args.bugs.now in
    let k = c.loop-entry.entry-index in
    let old = g.S.Store.history c.args.disk.now in
    let mid = g.S.Store.history c.loop-entry.disk in
    let new = g.S.Store.history c.row_of.new.disk in
    let first = c.loop-entry.invariant.wrote tells listed refs in
    let now = refs_stay folder (files_of old) (files_of mid) (rows_leave_bugs folder old mid first) side.Identities c.args.identities.now listed in
    let stands = next_stands folder old mid new bugs refs first k none c.loop-entry-test.true in
    Wrote-then (IsRowWrite folder) old mid new first (of_a_bug folder (get_or bugs k none).id mid new (c.in_ok-row_of.ensures.wrote tells now stands))

pub returns-in_err-row_of-clause-reads : goal.returns-in_err-row_of-clause-reads
unfolding none
returns-in_err-row_of-clause-reads g c = λ tells listed refs.
    let folder = c.args.folder.now in
    let bugs = c.args.bugs.now in
    let k = c.loop-entry.entry-index in
    let old = g.S.Store.history c.args.disk.now in
    let mid = g.S.Store.history c.loop-entry.disk in
    let new = g.S.Store.history c.row_of.new.disk in
    let first = c.loop-entry.invariant.wrote tells listed refs in
    reads_stop folder old mid new bugs refs first k none c.loop-entry-test.true (g.S.Store.object_reads c.args.disk.now) (g.S.Store.object_reads c.loop-entry.disk) (g.S.Store.object_reads c.row_of.new.disk)
    (c.loop-entry.invariant.rest tells listed refs) (c.loop-entry.invariant.reads tells listed refs) (c.in_err-row_of.ensures.reads tells)

pub returns-in_err-push-clause-reads : goal.returns-in_err-push-clause-reads
unfolding none
returns-in_err-push-clause-reads g c = λ tells listed refs.
    let folder = c.args.folder.now in
    let bugs = c.args.bugs.now in
    let k = c.loop-entry.entry-index in
    let old = g.S.Store.history c.args.disk.now in
    let mid = g.S.Store.history c.loop-entry.disk in
    let new = g.S.Store.history c.row_of.new.disk in
    let first = c.loop-entry.invariant.wrote tells listed refs in
    reads_stop folder old mid new bugs refs first k none c.loop-entry-test.true (g.S.Store.object_reads c.args.disk.now) (g.S.Store.object_reads c.loop-entry.disk) (g.S.Store.object_reads c.row_of.new.disk)
    (c.loop-entry.invariant.rest tells listed refs) (c.loop-entry.invariant.reads tells listed refs) (c.in_ok-row_of.ensures.reads tells)

pub returns-clause-reads : goal.returns-clause-reads
returns-clause-reads g c = λ tells listed refs.
    reads_first (files_of (g.S.Store.history c.args.disk.now)) c.args.folder.now c.args.bugs.now c.loop-entry.entry-index (g.S.Store.object_reads c.args.disk.now) (g.S.Store.object_reads c.loop-entry.disk)
    (c.loop-entry.invariant.reads tells listed refs)
