use Rattle.std.proofs.Common.{Option, subst}
use Rattle.gb_store.specs.Files.{files_of}
use Rattle.row_text.specs.declared.row.HeadRow.{HeadRow}
use Rattle.repo_rows.specs.Reading.{IsOlder}
use Rattle.repo_rows.proofs.RowLemmas.{grown_is_row, whole_is_row}
use Rattle.repo_rows.proofs.bugs.fresh_row.Goals as goal

pub returns-in-Some-clause-answers : goal.returns-in-Some-clause-answers
returns-in-Some-clause-answers g c = λ tells listed at stored.
    let files = files_of (g.S.Store.history c.args.disk.now) in
    let older = subst (λ (o : Option HeadRow). IsOlder files c.args.folder.now c.args.bug.now o) c.in-Some.is stored in
    grown_is_row files c.args.folder.now c.args.bug.now c.in-Some.older c.grown_row.result (c.grown_row.ensures.answers tells listed) at older

pub returns-in-None-clause-answers : goal.returns-in-None-clause-answers
returns-in-None-clause-answers g c = λ tells listed at stored.
    whole_is_row (files_of (g.S.Store.history c.args.disk.now)) c.args.folder.now c.args.bug.now c.read_whole.result (c.read_whole.ensures.answers tells listed)
