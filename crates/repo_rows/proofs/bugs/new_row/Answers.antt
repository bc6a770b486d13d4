use Rattle.repo_rows.proofs.RowLemmas.{wrote_its_row}
use Rattle.repo_rows.proofs.bugs.new_row.Goals as goal

pub returns-in-Ok-clause-wrote : goal.returns-in-Ok-clause-wrote
returns-in-Ok-clause-wrote g c = λ tells listed at older none.
    wrote_its_row c.args.folder.now c.args.bug.now c.in_ok-row.row (g.S.Store.history c.args.disk.now) (g.S.Store.history c.fresh_row.new.disk) (g.S.Store.history c.store_row.new.disk) (c.in_ok-row.ensures.unwritten tells) at none
    (c.in_ok-row.ensures.answers tells listed at older) (c.store_row.ensures.wrote tells)

pub returns-in-Err-Memory-clause-wrote : goal.returns-in-Err-Memory-clause-wrote
returns-in-Err-Memory-clause-wrote g c = λ tells listed at older none.
    wrote_its_row c.args.folder.now c.args.bug.now c.in_ok-row.row (g.S.Store.history c.args.disk.now) (g.S.Store.history c.fresh_row.new.disk) (g.S.Store.history c.store_row.new.disk) (c.in_ok-row.ensures.unwritten tells) at none
    (c.in_ok-row.ensures.answers tells listed at older) (c.store_row.ensures.wrote tells)

pub returns-clause-wrote : goal.returns-clause-wrote
returns-clause-wrote g c = λ tells listed at older none.
    wrote_its_row c.args.folder.now c.args.bug.now c.in_ok-row.row (g.S.Store.history c.args.disk.now) (g.S.Store.history c.fresh_row.new.disk) (g.S.Store.history c.store_row.new.disk) (c.in_ok-row.ensures.unwritten tells) at none
    (c.in_ok-row.ensures.answers tells listed at older) (c.store_row.ensures.wrote tells)
