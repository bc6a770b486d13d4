use Rattle.std.proofs.Common.{Err, sym, subst}
use Rattle.object_store.specs.Held.{objects_after}
use Rattle.identity.specs.Answers.{TextAnswers}
use Rattle.identity.specs.declared.fault.IdentityFault.{IdentityFault}
use Rattle.identity.proofs.CommitLemmas.{NoVersion-blob}
use Rattle.identity.proofs.commit.version_bytes.Goals as goal

pub returns-in-Err-clause-answers : goal.returns-in-Err-clause-answers
returns-in-Err-clause-answers g c = λ tells named.
    let objects = objects_after (g.S.Store.history c.args.disk.now) c.args.folder.now in
    subst (λ (f : IdentityFault). TextAnswers objects c.args.link.now (Err f)) (sym c.version_fault.ensures)
    (NoVersion-blob objects c.args.link.now c.args.object.now c.in-Err.fault named (c.in-Err.ensures.answers tells))
