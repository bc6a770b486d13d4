use Rattle.std.proofs.Common.{◌≡◌, List, ℕ, Result, Ok, Err, sym, subst, rules}
use Rattle.gb_store.specs.Files.{History}
use Rattle.object_store.specs.Held.{objects_after}
use Rattle.identity.specs.Answers.{ReadingAnswers, RootAnswers, TextAnswers}
use Rattle.identity.specs.Commits.{NamesVersion}
use Rattle.identity.specs.declared.commit.Judged.{Judged}
use Rattle.identity.specs.declared.fault.IdentityFault.{IdentityFault}
use Rattle.identity.proofs.CommitLemmas.{RootRefused-reading, RootRefused-text}
use Rattle.identity.proofs.commit.first_version.Goals as goal

pub returns-in_err-text-clause-answers : goal.returns-in_err-text-clause-answers
returns-in_err-text-clause-answers g c = λ tells.
    let objects = objects_after (g.S.Store.history c.args.disk.now) c.args.folder.now in
    let is : c.from_residual-in_err-text.result ≡ Err c.in_err-text.field-0.0 = search rules in
    let answer : TextAnswers objects c.args.root.now (Err c.in_err-text.field-0.0) =
    subst (λ (h : History). NamesVersion (objects_after h c.args.folder.now) c.args.root.now.tree c.in_ok-object.object → TextAnswers (objects_after h c.args.folder.now) c.args.root.now (Err c.in_err-text.field-0.0)) (c.in_ok-object.ensures.unwritten tells) (c.in_err-text.ensures.answers tells) (c.in_ok-object.ensures.answers tells) in
    subst (λ (r : Result Judged IdentityFault). RootAnswers objects c.args.id.now c.args.root.now r) (sym is)
    (RootRefused-text objects c.args.id.now c.args.root.now c.in_err-text.field-0.0 answer)

pub returns-in_err-version-clause-answers : goal.returns-in_err-version-clause-answers
returns-in_err-version-clause-answers g c = λ tells.
    let objects = objects_after (g.S.Store.history c.args.disk.now) c.args.folder.now in
    let is : c.from_residual-in_err-version.result ≡ Err c.in_err-version.field-0.0 = search rules in
    let answer : TextAnswers objects c.args.root.now (Ok c.in_ok-text.text) =
    subst (λ (h : History). NamesVersion (objects_after h c.args.folder.now) c.args.root.now.tree c.in_ok-object.object → TextAnswers (objects_after h c.args.folder.now) c.args.root.now (Ok c.in_ok-text.text)) (c.in_ok-object.ensures.unwritten tells) (c.in_ok-text.ensures.answers tells) (c.in_ok-object.ensures.answers tells) in
    let reading : ReadingAnswers c.args.root.now.name c.in_ok-text.text (Err c.in_err-version.field-0.0) =
    subst (λ (text : List ℕ). ReadingAnswers c.args.root.now.name text (Err c.in_err-version.field-0.0)) c.as_slice.ensures c.in_err-version.ensures in
    subst (λ (r : Result Judged IdentityFault). RootAnswers objects c.args.id.now c.args.root.now r) (sym is)
    (RootRefused-reading objects c.args.id.now c.args.root.now c.in_ok-text.text c.in_err-version.field-0.0 answer reading)
