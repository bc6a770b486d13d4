use Rattle.std.proofs.Common.{◌≡◌, List, Result, Ok, Err, refl, sym, subst, rules}
use Rattle.bug_ops.specs.declared.snapshot.Excerpt.{Excerpt}
use Rattle.gb_store.specs.Files.{files_of}
use Rattle.repo_state.specs.declared.stop.ReadStop.{ReadStop}
use Rattle.repo_rows.specs.Reading.{RowsAnswers}
use Rattle.repo_rows.proofs.ReadLemmas.{no_rows_read, reads_then}
use Rattle.repo_rows.proofs.RowLemmas.{listed_then, rows_of_refs, rows_refused, rows_then, wrote_then}
use Rattle.repo_rows.proofs.bugs.rows_among.Goals as goal

pub returns-in_err-rows-clause-answers : goal.returns-in_err-rows-clause-answers
returns-in_err-rows-clause-answers g c = λ tells listed.
    let folder = c.args.folder.now in
    let old = g.S.Store.history c.args.disk.now in
    let mid = g.S.Store.history c.entries.new.disk in
    let new = g.S.Store.history c.rows_of.new.disk in
    let same = c.in_ok-bugs.ensures.unwritten tells in
    let refs = c.in_ok-bugs.ensures.entries tells in
    let now = listed_then folder old mid c.args.identities.now c.args.identities.now same refl listed in
    let is : c.from_residual-in_err-rows.result ≡ Err c.in_err-rows.field-0.0 = search rules in
    subst (λ (r : Result (List Excerpt) ReadStop). RowsAnswers folder old new r) (sym is)
    (rows_refused folder old new c.in_ok-bugs.bugs refs c.in_err-rows.field-0.0
    (rows_then folder old mid new _ c.in_ok-bugs.bugs same c.as_slice.ensures refs (Err c.in_err-rows.field-0.0) (c.in_err-rows.ensures.answers tells now)))

pub returns-in_err-rows-clause-wrote : goal.returns-in_err-rows-clause-wrote
returns-in_err-rows-clause-wrote g c = λ tells listed.
    let folder = c.args.folder.now in
    let old = g.S.Store.history c.args.disk.now in
    let mid = g.S.Store.history c.entries.new.disk in
    let new = g.S.Store.history c.rows_of.new.disk in
    let same = c.in_ok-bugs.ensures.unwritten tells in
    let now = listed_then folder old mid c.args.identities.now c.args.identities.now same refl listed in
    wrote_then folder old mid new _ c.in_ok-bugs.bugs same c.as_slice.ensures (c.in_ok-bugs.ensures.entries tells) (c.in_err-rows.ensures.wrote tells now)

pub returns-clause-answers : goal.returns-clause-answers
returns-clause-answers g c = λ tells listed.
    let folder = c.args.folder.now in
    let old = g.S.Store.history c.args.disk.now in
    let mid = g.S.Store.history c.entries.new.disk in
    let new = g.S.Store.history c.rows_of.new.disk in
    let same = c.in_ok-bugs.ensures.unwritten tells in
    let refs = c.in_ok-bugs.ensures.entries tells in
    let now = listed_then folder old mid c.args.identities.now c.args.identities.now same refl listed in
    let are = rows_then folder old mid new _ c.in_ok-bugs.bugs same c.as_slice.ensures refs (Ok c.in_ok-rows.rows) (c.in_ok-rows.ensures.answers tells now) in
    subst (λ (rows : List Excerpt). RowsAnswers folder old new (Ok rows)) (sym c.from_vec.ensures) (rows_of_refs folder old new c.in_ok-bugs.bugs refs c.in_ok-rows.rows.items are)

pub returns-clause-wrote : goal.returns-clause-wrote
returns-clause-wrote g c = λ tells listed.
    let folder = c.args.folder.now in
    let old = g.S.Store.history c.args.disk.now in
    let mid = g.S.Store.history c.entries.new.disk in
    let new = g.S.Store.history c.rows_of.new.disk in
    let same = c.in_ok-bugs.ensures.unwritten tells in
    let now = listed_then folder old mid c.args.identities.now c.args.identities.now same refl listed in
    wrote_then folder old mid new _ c.in_ok-bugs.bugs same c.as_slice.ensures (c.in_ok-bugs.ensures.entries tells) (c.in_ok-rows.ensures.wrote tells now)

pub returns-in_err-bugs-clause-reads : goal.returns-in_err-bugs-clause-reads
returns-in_err-bugs-clause-reads g c = λ tells listed.
    no_rows_read (files_of (g.S.Store.history c.args.disk.now)) c.args.folder.now (g.S.Store.object_reads c.args.disk.now) (g.S.Store.object_reads c.entries.new.disk) c.entries.ensures.reads

pub returns-in_err-rows-clause-reads : goal.returns-in_err-rows-clause-reads
returns-in_err-rows-clause-reads g c = λ tells listed.
    let folder = c.args.folder.now in
    let old = g.S.Store.history c.args.disk.now in
    let mid = g.S.Store.history c.entries.new.disk in
    let same = c.in_ok-bugs.ensures.unwritten tells in
    let now = listed_then folder old mid c.args.identities.now c.args.identities.now same refl listed in
    reads_then folder old mid _ c.in_ok-bugs.bugs same c.as_slice.ensures (c.in_ok-bugs.ensures.entries tells) (g.S.Store.object_reads c.args.disk.now) (g.S.Store.object_reads c.entries.new.disk)
    (g.S.Store.object_reads c.rows_of.new.disk) c.in_ok-bugs.ensures.reads (c.in_err-rows.ensures.reads tells now)

pub returns-clause-reads : goal.returns-clause-reads
returns-clause-reads g c = λ tells listed.
    let folder = c.args.folder.now in
    let old = g.S.Store.history c.args.disk.now in
    let mid = g.S.Store.history c.entries.new.disk in
    let same = c.in_ok-bugs.ensures.unwritten tells in
    let now = listed_then folder old mid c.args.identities.now c.args.identities.now same refl listed in
    reads_then folder old mid _ c.in_ok-bugs.bugs same c.as_slice.ensures (c.in_ok-bugs.ensures.entries tells) (g.S.Store.object_reads c.args.disk.now) (g.S.Store.object_reads c.entries.new.disk)
    (g.S.Store.object_reads c.rows_of.new.disk) c.in_ok-bugs.ensures.reads (c.in_ok-rows.ensures.reads tells now)
