use Rattle.std.proofs.Common.{◌≡◌, Result, Err, sym, subst, rules}
use Rattle.object_store.specs.Held.{objects_after}
use Rattle.identity.specs.Knowing.{IsVersion, ObjectAnswers}
use Rattle.identity.specs.declared.fault.IdentityFault.{IdentityFault}
use Rattle.identity.proofs.KnownLemmas.{IsVersion-named, name_found}
use Rattle.identity.proofs.known.Known.judge_object.Goals as goal

pub returns-then-contains-clause-answers : goal.returns-then-contains-clause-answers
returns-then-contains-clause-answers g c = λ tells known named.
    name_found (IsVersion (objects_after (g.S.Store.history c.args.disk.now) c.args.folder.now)) c.args.self.now.objects.keys c.args.object
    (sym c.if-contains.ensures) known.objects_are

pub returns-in_err-judge-clause-answers : goal.returns-in_err-judge-clause-answers
returns-in_err-judge-clause-answers g c = λ tells known named.
    let objects = objects_after (g.S.Store.history c.args.disk.now) c.args.folder.now in
    let is : c.from_residual.result ≡ Err c.in_err-judge.field-0.0 = search rules in
    subst (λ (r : Result _ IdentityFault). ObjectAnswers objects c.args.link.now c.args.object r) (sym is) (c.in_err-judge.ensures.answers tells named)

pub returns-clause-answers : goal.returns-clause-answers
returns-clause-answers g c = λ tells known named.
    let objects = objects_after (g.S.Store.history c.args.disk.now) c.args.folder.now in
    let judged = c.in_ok-judge.ensures.answers tells named in
    IsVersion-named objects c.in_ok-judge.field-0 c.args.link.now.tree c.args.object judged.0 named judged.1
