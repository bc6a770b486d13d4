use Rattle.std.proofs.Common.{◌≡◌, List, ℕ, Result, Err, sym, subst, rules}
use Rattle.object_store.specs.Held.{objects_after}
use Rattle.identity.specs.Answers.{JudgedAnswers, ReadingAnswers}
use Rattle.identity.specs.declared.commit.Judged.{Judged}
use Rattle.identity.specs.declared.fault.IdentityFault.{IdentityFault}
use Rattle.identity.proofs.CommitLemmas.{NoVersion-reading}
use Rattle.identity.proofs.commit.judge.Goals as goal

pub returns-in_err-version-clause-answers : goal.returns-in_err-version-clause-answers
returns-in_err-version-clause-answers g c = λ tells named.
    let objects = objects_after (g.S.Store.history c.args.disk.now) c.args.folder.now in
    let is : c.from_residual-in_err-version.result ≡ Err c.in_err-version.field-0.0 = search rules in
    let reading : ReadingAnswers c.args.link.now.name c.in_ok-text.text (Err c.in_err-version.field-0.0) =
    subst (λ (text : List ℕ). ReadingAnswers c.args.link.now.name text (Err c.in_err-version.field-0.0)) c.as_slice.ensures c.in_err-version.ensures in
    subst (λ (r : Result Judged IdentityFault). JudgedAnswers objects c.args.link.now r) (sym is)
    (NoVersion-reading objects c.args.link.now c.in_ok-text.text c.in_err-version.field-0.0 (c.in_ok-text.ensures.answers tells named) reading)
