use Rattle.std.proofs.Common.{◌≡◌, ◌-◌, [], length, take, drop, get_or, Contains, Option, Result, Err, sym, subst, rules, arith}
use Rattle.std.proofs.lemmas.List.Elements.{Contains-get_or}
use Rattle.gb_text.specs.declared.id.Name.{Name}
use Rattle.gb_store.specs.Files.{History, files_of}
use Rattle.object_store.specs.Held.{objects_in}
use Rattle.commit_walk.specs.declared.chain.Link.{Link}
use Rattle.identity.specs.Answers.{CheckAnswers, IsJudged, RootRefused, OneRefused}
use Rattle.identity.specs.Commits.{NamesVersion}
use Rattle.identity.specs.Knowing.{AreFrom, IsFrom}
use Rattle.identity.specs.Faults.{Refused}
use Rattle.identity.specs.declared.version.Version.{Version}
use Rattle.identity.specs.declared.fault.IdentityFault.{IdentityFault}
use Rattle.identity.proofs.CountLemmas.{AreFrom-later}
use Rattle.identity.proofs.PersonLemmas.{CheckRefused-first, CheckRefused-later}
use Rattle.identity.proofs.chain.check_versions.Goals as goal

none : Link
none = record { name = record { bytes = [] }; tree = record { bytes = [] } }

pub returns-in_err-first-clause-answers : goal.returns-in_err-first-clause-answers
unfolding none
returns-in_err-first-clause-answers g c = λ tells.
    let objects = objects_in (files_of (g.S.Store.history c.args.disk.now)) c.args.folder.now in
    let is : c.from_residual.result ≡ Err c.in_err-first.field-0.0 = search rules in
    let root : Refused (RootRefused objects c.args.id.now (get_or c.args.walk.now 0 none)) c.in_err-first.field-0.0 = c.in_err-first.ensures.answers tells in
    subst (λ (r : Result (Option Version) IdentityFault). CheckAnswers objects c.args.id.now c.args.walk.now r) (sym is)
    (CheckRefused-first objects c.args.id.now c.args.walk.now none c.in_err-first.field-0.0 c.in-len1-up.len_at_least root)

pub returns-in_err-last-clause-answers : goal.returns-in_err-last-clause-answers
returns-in_err-last-clause-answers g c = λ tells.
    let objects = objects_in (files_of (g.S.Store.history c.args.disk.now)) c.args.folder.now in
    let is : c.from_residual-in_err-last.result ≡ Err c.in_err-last.field-0.0 = search rules in
    let judged : IsJudged (objects_in (files_of (g.S.Store.history c.first_version.new.disk)) c.args.folder.now) c.in_ok-first.first =
    subst (λ (h : History). IsJudged (objects_in (files_of h) c.args.folder.now) c.in_ok-first.first) (sym (c.in_ok-first.ensures.unwritten tells)) (c.in_ok-first.ensures.answers tells).1 in
    let later : Refused (OneRefused objects (take (length c.args.walk.now - 1) (drop 1 c.args.walk.now))) c.in_err-last.field-0.0 =
    subst (λ (h : History). Refused (OneRefused (objects_in (files_of h) c.args.folder.now) (take (length c.args.walk.now - 1) (drop 1 c.args.walk.now))) c.in_err-last.field-0.0) (c.in_ok-first.ensures.unwritten tells) (c.in_err-last.ensures.answers tells judged) in
    subst (λ (r : Result (Option Version) IdentityFault). CheckAnswers objects c.args.id.now c.args.walk.now r) (sym is)
    (CheckRefused-later objects c.args.id.now c.args.walk.now c.in_err-last.field-0.0 c.in-len1-up.len_at_least later)

pub returns-clause-distinct : goal.returns-clause-distinct
unfolding none
returns-clause-distinct g c = λ tells trees versions from.
    let objects = objects_in (files_of (g.S.Store.history c.args.disk.now)) c.args.folder.now in
    let judged : IsJudged objects c.in_ok-first.first = (c.in_ok-first.ensures.answers tells).1 in
    let root : IsFrom objects trees versions (get_or c.args.walk.now 0 none) = from (get_or c.args.walk.now 0 none) (Contains-get_or c.args.walk.now 0 none c.in-len1-up.len_at_least) in
    let named : NamesVersion objects (get_or c.args.walk.now 0 none).tree c.in_ok-first.first.object = subst (λ (tree : Name). NamesVersion objects tree c.in_ok-first.first.object) c.in_ok-first.ensures.tree judged.named in
    let later : AreFrom objects trees versions (take (length c.args.walk.now - 1) (drop 1 c.args.walk.now)) = AreFrom-later objects trees versions c.args.walk.now c.in-len1-up.len_at_least from in
    let first_judged : IsJudged (objects_in (files_of (g.S.Store.history c.first_version.new.disk)) c.args.folder.now) c.in_ok-first.first =
    subst (λ (h : History). IsJudged (objects_in (files_of h) c.args.folder.now) c.in_ok-first.first) (sym (c.in_ok-first.ensures.unwritten tells)) judged in
    let rest = c.in_ok-last.ensures.distinct tells trees versions first_judged (subst (Contains trees) (sym c.in_ok-first.ensures.tree) root.tree) (root.version c.in_ok-first.first.object named)
    (subst (λ (h : History). AreFrom (objects_in (files_of h) c.args.folder.now) trees versions (take (length c.args.walk.now - 1) (drop 1 c.args.walk.now))) (sym (c.in_ok-first.ensures.unwritten tells)) later) in
    omega (arith, c.in_ok-first.ensures.reads, rest)
