use Rattle.repo_rows.proofs.RowLemmas.{stored_or_not, stored_if_ok}
use Rattle.repo_rows.proofs.bugs.store_row.Goals as goal

pub returns-clause-stored : goal.returns-clause-stored
returns-clause-stored g c = λ tells.
    stored_if_ok c.args.folder.now c.args.id.now c.args.row.now (g.S.Store.history c.args.disk.now) (g.S.Store.history c.write_row.new.disk) c.write_row.result (c.write_row.ensures.answers tells)

pub returns-clause-wrote : goal.returns-clause-wrote
returns-clause-wrote g c = λ tells.
    stored_or_not c.args.folder.now c.args.id.now c.args.row.now (c.satisfies_rules.ensures.0 c.if-not-satisfies_rules.false) (g.S.Store.history c.args.disk.now) (g.S.Store.history c.write_row.new.disk) c.write_row.result
    (c.write_row.ensures.answers tells)
