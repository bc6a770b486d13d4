use Rattle.gb_store.specs.Files.{files_of}
use Rattle.repo_rows.proofs.RowLemmas.{row_of_packs}
use Rattle.repo_rows.proofs.bugs.read_whole.Goals as goal

pub returns-clause-answers : goal.returns-clause-answers
returns-clause-answers g c = λ tells listed.
    row_of_packs (files_of (g.S.Store.history c.args.disk.now)) c.args.folder.now c.args.bug.now c.in_ok-entity.entity c.in_ok-row_in.field-0 (c.in_ok-entity.ensures.answers tells listed) c.in_ok-entity.ensures.rules c.in_ok-row_in.ensures
