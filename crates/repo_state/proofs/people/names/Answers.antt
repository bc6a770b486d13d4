use Rattle.std.proofs.Common.{length, ap, arith}
use Rattle.gb_store.specs.Files.{files_of}
use Rattle.ref_store.specs.declared.listing.RefEntry.{RefEntry}
use Rattle.repo_state.proofs.PeopleLemmas.{reads_people}
use Rattle.repo_state.proofs.people.names.Goals as goal

pub returns-clause-reads : goal.returns-clause-reads
returns-clause-reads g c = λ tells.
    reads_people (files_of (g.S.Store.history c.args.disk.now)) c.args.folder.now c.in_ok-identities.identities (c.in_ok-identities.ensures.answers tells) _ _
    (omega (arith, c.people_among.ensures.reads, c.in_ok-identities.ensures.reads, ap (length {A = RefEntry}) c.as_slice.ensures))
