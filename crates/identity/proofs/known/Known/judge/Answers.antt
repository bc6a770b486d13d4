use Rattle.std.proofs.Common.{◌≡◌, Result, Err, sym, subst, rules, arith}
use Rattle.gb_store.specs.Files.{History}
use Rattle.object_store.specs.Held.{objects_after}
use Rattle.identity.specs.Commits.{NamesVersion}
use Rattle.identity.specs.Knowing.{AreKnown, KnowingAnswers, ObjectAnswers, TreeHas}
use Rattle.identity.specs.declared.fault.IdentityFault.{IdentityFault}
use Rattle.identity.proofs.CountLemmas.{stays, unknown-new, unknown-read}
use Rattle.identity.proofs.KnownLemmas.{name_found}
use Rattle.identity.proofs.known.Known.judge.Goals as goal

pub returns-then-contains-clause-answers : goal.returns-then-contains-clause-answers
returns-then-contains-clause-answers g c = λ tells known. (
  name_found (TreeHas (objects_after (g.S.Store.history c.args.disk.now) c.args.folder.now)) c.args.self.now.trees.keys c.args.link.now.tree
      (sym c.if-contains.ensures) known.trees,
  known,
)

pub returns-in_err-judge_object-clause-answers : goal.returns-in_err-judge_object-clause-answers
returns-in_err-judge_object-clause-answers g c = λ tells known.
    let objects = objects_after (g.S.Store.history c.args.disk.now) c.args.folder.now in
    let is : c.from_residual-in_err-judge_object.result ≡ Err c.in_err-judge_object.field-0.0 = search rules in
    let answer : AreKnown objects c.args.self.now → NamesVersion objects c.args.link.now.tree c.in_ok-object.object → ObjectAnswers objects c.args.link.now c.in_ok-object.object (Err c.in_err-judge_object.field-0.0) =
    subst (λ (h : History). AreKnown (objects_after h c.args.folder.now) c.args.self.now → NamesVersion (objects_after h c.args.folder.now) c.args.link.now.tree c.in_ok-object.object → ObjectAnswers (objects_after h c.args.folder.now) c.args.link.now c.in_ok-object.object (Err c.in_err-judge_object.field-0.0)) (c.in_ok-object.ensures.unwritten tells) (c.in_err-judge_object.ensures.answers tells) in
    subst (λ (r : Result _ IdentityFault). KnowingAnswers objects c.args.link.now c.args.self.now r) (sym is) (answer known (c.in_ok-object.ensures.answers tells))

pub returns-clause-known : goal.returns-clause-known
returns-clause-known g c = c.in_ok-add.ensures.trees.1

pub returns-clause-kept : goal.returns-clause-kept
returns-clause-kept g c = record {
  trees = stays c.args.self.now.trees c.add.new.self.trees c.args.link.now.tree c.in_ok-add.ensures.trees;
  objects = stays c.args.self.now.objects c.add.new.self.objects c.in_ok-object.object c.in_ok-add.ensures.objects;
}

pub returns-clause-once : goal.returns-clause-once
returns-clause-once g c = λ tells trees versions from.
    let objects = objects_after (g.S.Store.history c.args.disk.now) c.args.folder.now in
    let named : NamesVersion objects c.args.link.now.tree c.in_ok-object.object = c.in_ok-object.ensures.answers tells in
    let tree = unknown-new trees c.args.self.now.trees c.add.new.self.trees c.args.link.now.tree c.in_ok-add.ensures.trees from.tree (sym c.if-contains.ensures) in
    let object = unknown-read versions c.args.self.now.objects c.add.new.self.objects c.in_ok-object.object (g.S.Store.object_reads c.version_name.new.disk) (g.S.Store.object_reads c.judge_object.new.disk)
    c.in_ok-add.ensures.objects (from.version c.in_ok-object.object named) c.in_ok-judge_object.ensures.known c.in_ok-judge_object.ensures.reads in
    omega (arith, tree, object, c.in_ok-object.ensures.reads)
