use Rattle.std.proofs.Common.{◌≡◌, List, Vec, Global, length, Option, Some, Result, Ok, Err, sym, ◌∙◌, ap, subst, rules, arith}
use Rattle.gb_store.specs.Files.{History, files_of}
use Rattle.object_store.specs.Held.{objects_in}
use Rattle.commit_walk.specs.declared.chain.Link.{Link}
use Rattle.commit_walk.proofs.ChainPassLemmas.{one_walk}
use Rattle.identity.specs.Answers.{CheckAnswers, WholeAnswers}
use Rattle.identity.specs.Knowing.{AreFrom}
use Rattle.identity.specs.declared.version.Version.{Version}
use Rattle.identity.specs.declared.fault.IdentityFault.{IdentityFault}
use Rattle.identity.proofs.PersonLemmas.{WholeRefused, HasChain-checked}
use Rattle.identity.proofs.chain.read_whole.Goals as goal

pub returns-in_err-last-clause-answers : goal.returns-in_err-last-clause-answers
returns-in_err-last-clause-answers g c = λ tells.
    let objects = objects_in (files_of (g.S.Store.history c.args.disk.now)) c.args.folder.now in
    let is : c.from_residual-in_err-last.result ≡ Err c.in_err-last.field-0.0 = search rules in
    let walked = c.in_ok-walk.ensures.answers tells in
    let answer : CheckAnswers objects c.args.id.now c.in_ok-walk.walk.items (Err c.in_err-last.field-0.0) =
    subst (λ (ms : List Link). CheckAnswers objects c.args.id.now ms (Err c.in_err-last.field-0.0)) c.deref.ensures.value
    (subst (λ (h : History). CheckAnswers (objects_in (files_of h) c.args.folder.now) c.args.id.now c.deref.result.now (Err c.in_err-last.field-0.0)) (c.in_ok-walk.ensures.unwritten tells) (c.in_err-last.ensures.answers tells)) in
    subst (λ (r : Result (Vec Link Global × Version) IdentityFault). WholeAnswers objects c.args.id.now c.args.head.now r) (sym is)
    (WholeRefused objects c.args.id.now c.args.head.now c.in_ok-walk.walk.items c.in_err-last.field-0.0 walked.0 walked.1 answer)

pub returns-in-Some-clause-answers : goal.returns-in-Some-clause-answers
returns-in-Some-clause-answers g c = λ tells.
    let objects = objects_in (files_of (g.S.Store.history c.args.disk.now)) c.args.folder.now in
    let walked = c.in_ok-walk.ensures.answers tells in
    let answer : CheckAnswers objects c.args.id.now c.in_ok-walk.walk.items (Ok (Some c.in-Some.last)) =
    subst (λ (ms : List Link). CheckAnswers objects c.args.id.now ms (Ok (Some c.in-Some.last))) c.deref.ensures.value
    (subst (λ (h : History). CheckAnswers (objects_in (files_of h) c.args.folder.now) c.args.id.now c.deref.result.now (Ok (Some c.in-Some.last))) (c.in_ok-walk.ensures.unwritten tells)
    (subst (λ (o : Option Version). CheckAnswers (objects_in (files_of (g.S.Store.history c.walk_chain.new.disk)) c.args.folder.now) c.args.id.now c.deref.result.now (Ok o)) c.in-Some.is (c.in_ok-last.ensures.answers tells))) in
    HasChain-checked objects c.args.id.now c.args.head.now c.in_ok-walk.walk.items c.in-Some.last walked.0 walked.1 answer

pub returns-in-Some-clause-distinct : goal.returns-in-Some-clause-distinct
returns-in-Some-clause-distinct g c = λ tells walk trees versions walked from.
    let objects = objects_in (files_of (g.S.Store.history c.args.disk.now)) c.args.folder.now in
    let whole = c.in_ok-walk.ensures.answers tells in
    let one : walk ≡ c.in_ok-walk.walk.items = one_walk objects c.args.head.now walk c.in_ok-walk.walk.items walked whole.0 in
    let read : walk ≡ c.deref.result.now = one ∙ sym c.deref.ensures.value in
    let here : AreFrom (objects_in (files_of (g.S.Store.history c.walk_chain.new.disk)) c.args.folder.now) trees versions c.deref.result.now =
    subst (λ (h : History). AreFrom (objects_in (files_of h) c.args.folder.now) trees versions c.deref.result.now) (sym (c.in_ok-walk.ensures.unwritten tells)) (subst (AreFrom objects trees versions) read from) in
    omega (arith, ap length one, c.in_ok-walk.ensures.once, c.in_ok-last.ensures.distinct tells trees versions here)
