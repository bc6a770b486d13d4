use Rattle.std.proofs.Common.{subst}
use Rattle.gb_store.specs.Files.{files_of}
use Rattle.repo_state.specs.Rows.{stored_row}
use Rattle.repo_rows.specs.Reading.{IsJudged}
use Rattle.repo_rows.specs.declared.bugs.Judged.{Judged}
use Rattle.repo_rows.proofs.ReadLemmas.{reads_grown}
use Rattle.repo_rows.proofs.RowLemmas.{stored_is_row}
use Rattle.repo_rows.proofs.bugs.row_at.Goals as goal

pub returns-in-Current-clause-answers : goal.returns-in-Current-clause-answers
returns-in-Current-clause-answers g c = λ tells listed at.
    let files = files_of (g.S.Store.history c.args.disk.now) in
    let bug = c.args.bug.now in
    let judged = subst (λ (j : Judged). IsJudged bug.name (stored_row files c.args.folder.now bug.id) j) c.in-Current.is (c.in_ok-row.ensures.answers tells) in
    stored_is_row files c.args.folder.now bug c.in-Current.row at.0 judged

pub returns-in-Older-clause-reads : goal.returns-in-Older-clause-reads
returns-in-Older-clause-reads g c = λ tells.
    let old = g.S.Store.history c.args.disk.now in
    let bug = c.args.bug.now in
    let judged = subst (λ (j : Judged). IsJudged bug.name (stored_row (files_of old) c.args.folder.now bug.id) j) c.in-Older.is (c.in_ok-row.ensures.answers tells) in
    reads_grown c.args.folder.now bug c.in-Older.older old (g.S.Store.history c.stored_row.new.disk) (c.in_ok-row.ensures.unwritten tells) (g.S.Store.object_reads c.args.disk.now)
    (g.S.Store.object_reads c.stored_row.new.disk) (g.S.Store.object_reads c.new_row.new.disk) c.in_ok-row.ensures.reads judged (c.new_row.ensures.below tells) (c.new_row.ensures.above tells)
