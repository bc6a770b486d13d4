use Rattle.gb_store.specs.Files.{files_of}
use Rattle.repo_rows.proofs.ReadLemmas.{no_rows_read}
use Rattle.repo_rows.proofs.bugs.rows.Goals as goal

pub returns-in_err-identities-clause-reads : goal.returns-in_err-identities-clause-reads
returns-in_err-identities-clause-reads g c = λ tells.
    no_rows_read (files_of (g.S.Store.history c.args.disk.now)) c.args.folder.now (g.S.Store.object_reads c.args.disk.now) (g.S.Store.object_reads c.identity_refs.new.disk) c.identity_refs.ensures.reads
