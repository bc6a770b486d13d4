use Rattle.std.proofs.Common.{◌≡◌, Result, Err, sym, ap, subst, rules}
use Rattle.bug_ops.specs.declared.snapshot.Excerpt.{Excerpt}
use Rattle.gb_text.specs.declared.id.Id.{Id}
use Rattle.gb_store.specs.Files.{files_of}
use Rattle.gb_store.specs.Moments.{Wrote}
use Rattle.ref_store.specs.declared.listing.RefEntry.{RefEntry}
use Rattle.repo_state.specs.declared.stop.ReadStop.{ReadStop}
use Rattle.repo_rows.specs.Reading.{IsRowWriteOf, RowOf}
use Rattle.repo_rows.proofs.RowLemmas.{by_its_head, head_of_found, no_head, stored_by_its_head}
use Rattle.repo_rows.proofs.bugs.row_of.Goals as goal

pub returns-in_err-bug-clause-answers : goal.returns-in_err-bug-clause-answers
returns-in_err-bug-clause-answers g c = λ tells listed found.
    let is : c.from_residual.result ≡ Err c.in_err-bug.field-0.0 = search rules in
    subst (λ (r : Result Excerpt ReadStop). RowOf (files_of (g.S.Store.history c.args.disk.now)) c.args.folder.now c.args.entry.now r) (sym is)
    (no_head (files_of (g.S.Store.history c.args.disk.now)) c.args.folder.now c.args.entry.now c.in_err-bug.field-0.0 c.in_err-bug.ensures)

pub returns-clause-answers : goal.returns-clause-answers
returns-clause-answers g c = λ tells listed found.
    let files = files_of (g.S.Store.history c.args.disk.now) in
    let at = head_of_found files c.args.folder.now c.in_ok-bug.bug c.args.entry.now c.in_ok-bug.ensures found in
    by_its_head files c.args.folder.now c.in_ok-bug.bug c.args.entry.now c.in_ok-bug.ensures c.row_at.result (c.row_at.ensures.answers tells listed at)

pub returns-clause-stored : goal.returns-clause-stored
returns-clause-stored g c = λ tells.
    stored_by_its_head (files_of (g.S.Store.history c.row_at.new.disk)) c.args.folder.now c.in_ok-bug.bug c.args.entry.now c.in_ok-bug.ensures c.row_at.result (c.row_at.ensures.stored tells)

pub returns-clause-wrote : goal.returns-clause-wrote
returns-clause-wrote g c = λ tells listed found.
    let files = files_of (g.S.Store.history c.args.disk.now) in
    let at = head_of_found files c.args.folder.now c.in_ok-bug.bug c.args.entry.now c.in_ok-bug.ensures found in
    subst (λ (id : Id). Wrote (IsRowWriteOf c.args.folder.now id) (g.S.Store.history c.args.disk.now) (g.S.Store.history c.row_at.new.disk)) (ap (λ (e : RefEntry). e.id) c.in_ok-bug.ensures)
    (c.row_at.ensures.wrote tells listed at)
