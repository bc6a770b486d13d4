use Rattle.std.proofs.Common.{◌≡◌, ◌∙◌, IsTrue, [], get_or, Result, Ok, Err, sym, subst, rules, arith}
use Rattle.std.proofs.lemmas.List.{take_all}
use Rattle.std.proofs.lemmas.List.Elements.{All-more, Contains-get_or}
use Rattle.gb_store.specs.Files.{History}
use Rattle.gb_store.proofs.FaultLemmas.{KeepsFaults_then}
use Rattle.object_store.specs.Held.{objects_after}
use Rattle.commit_walk.specs.declared.chain.Link.{Link}
use Rattle.identity.specs.Knowing.{AreKnown, EachAnswers, EachHas, IsFrom, KnowingAnswers, TreeHas}
use Rattle.identity.specs.declared.fault.IdentityFault.{IdentityFault}
use Rattle.identity.proofs.KnownLemmas.{OneRefused-at}
use Rattle.identity.proofs.known.Known.judge_each.Goals as goal

none : Link
none = record { name = record { bytes = [] }; tree = record { bytes = [] } }

pub returns-in_err-judge-clause-answers : goal.returns-in_err-judge-clause-answers
unfolding none
returns-in_err-judge-clause-answers g c = λ tells first.
    let objects = objects_after (g.S.Store.history c.args.disk.now) c.args.folder.now in
    let is : c.from_residual.result ≡ Err c.in_err-judge.field-0.0 = search rules in
    let link = get_or c.args.links.now c.loop-link.link-index none in
    let known : AreKnown (objects_after (g.S.Store.history c.loop-link.disk) c.args.folder.now) c.loop-link.self =
    subst (λ (h : History). AreKnown (objects_after h c.args.folder.now) c.loop-link.self) (sym (c.loop-link.invariant.unwritten tells)) (c.loop-link.invariant.known tells first) in
    let answer : KnowingAnswers objects link c.judge.new.self (Err c.in_err-judge.field-0.0) =
    subst (λ (h : History). KnowingAnswers (objects_after h c.args.folder.now) link c.judge.new.self (Err c.in_err-judge.field-0.0)) (c.loop-link.invariant.unwritten tells) (c.in_err-judge.ensures.answers tells known) in
    subst (λ (r : Result _ IdentityFault). EachAnswers objects c.args.links.now r) (sym is)
    (OneRefused-at objects c.args.links.now c.loop-link.link-index none c.in_err-judge.field-0.0 c.loop-link-test.true answer)

pub loop-link-preserved : goal.loop-link-preserved
unfolding none
loop-link-preserved g c = record {
  each = λ tells first. All-more (λ link. TreeHas (objects_after (g.S.Store.history c.args.disk.now) c.args.folder.now) link.tree) c.args.links.now c.loop-link.link-index none c.loop-link-test.true (c.loop-link.invariant.each tells first) (answer tells first).0;
  known = λ tells first. (answer tells first).1;
  unwritten = λ tells. c.in_ok-judge.ensures.unwritten tells ∙ c.loop-link.invariant.unwritten tells;
  reads = omega (arith, c.loop-link.invariant.reads, c.judge.ensures.reads);
  once = λ tells trees versions from.
      let here : IsFrom (objects_after (g.S.Store.history c.args.disk.now) c.args.folder.now) trees versions link = from link (Contains-get_or c.args.links.now c.loop-link.link-index none c.loop-link-test.true) in
      let step = c.in_ok-judge.ensures.once tells trees versions (subst (λ (h : History). IsFrom (objects_after h c.args.folder.now) trees versions link) (sym (c.loop-link.invariant.unwritten tells)) here) in
      omega (arith, c.loop-link.invariant.once tells trees versions from, step);
  caused = KeepsFaults_then g.S.Store.never_fails g.S.Store.faults _ ⊥ c.args.disk.now c.loop-link.disk c.judge.new.disk c.loop-link.invariant.caused c.in_ok-judge.ensures.caused (λ none. absurd none) (λ fails. absurd (cc));
}
  where
    link : Link
    link = get_or c.args.links.now c.loop-link.link-index none

    answer : IsTrue g.S.Store.tells → AreKnown (objects_after (g.S.Store.history c.args.disk.now) c.args.folder.now) c.args.self.now
        → KnowingAnswers (objects_after (g.S.Store.history c.args.disk.now) c.args.folder.now) link c.judge.new.self (Ok tt)
    answer tells first =
        let known : AreKnown (objects_after (g.S.Store.history c.loop-link.disk) c.args.folder.now) c.loop-link.self =
        subst (λ (h : History). AreKnown (objects_after h c.args.folder.now) c.loop-link.self) (sym (c.loop-link.invariant.unwritten tells)) (c.loop-link.invariant.known tells first) in
        subst (λ (h : History). KnowingAnswers (objects_after h c.args.folder.now) link c.judge.new.self (Ok tt)) (c.loop-link.invariant.unwritten tells) (c.in_ok-judge.ensures.answers tells known)

pub returns-clause-answers : goal.returns-clause-answers
returns-clause-answers g c = λ tells first.
    let objects = objects_after (g.S.Store.history c.args.disk.now) c.args.folder.now in
    subst (EachHas objects) (take_all c.loop-link.link-index c.args.links.now (omega (arith, c.loop-link-test.false))) (c.loop-link.invariant.each tells first)
