use Rattle.std.proofs.Common.{◌≡◌, ◌++◌, ◌∷◌, [], List, Contains, Result, Ok, Err, sym, ◌∙◌, subst, ⊎_elim, rules, arith, ◌≤◌, ◌+◌}
use Rattle.gb_text.specs.declared.id.Name.{Name}
use Rattle.gb_store.specs.Files.{History}
use Rattle.object_store.specs.Held.{objects_after}
use Rattle.commit_walk.specs.declared.chain.Link.{Link}
use Rattle.identity.specs.Answers.{JudgedAnswers, LaterAnswers, Leads, OneRefused}
use Rattle.identity.specs.Commits.{NamesVersion}
use Rattle.identity.specs.Faults.{Refused}
use Rattle.identity.specs.Knowing.{AreFrom, AreKnown, EachAnswers, IsFrom, unread}
use Rattle.identity.specs.declared.version.Version.{Version}
use Rattle.identity.specs.declared.fault.IdentityFault.{IdentityFault}
use Rattle.identity.proofs.CommitLemmas.{VersionIn-judged}
use Rattle.identity.proofs.CountLemmas.{AreFrom-front, IsFrom-last, unknown-added, unknown-first, unknown-second}
use Rattle.identity.proofs.KnownLemmas.{IsVersion-judged, Leads-through, OneRefused-front}
use Rattle.identity.proofs.chain.last_version.Goals as goal

pub returns-in_err-judge_each-clause-answers : goal.returns-in_err-judge_each-clause-answers
returns-in_err-judge_each-clause-answers g c = λ tells judged.
    let objects = objects_after (g.S.Store.history c.args.disk.now) c.args.folder.now in
    let is : c.from_residual-in_err-judge_each.result ≡ Err c.in_err-judge_each.field-0.0 = search rules in
    let last : JudgedAnswers objects c.in-Some.head.now (Ok c.in_ok-last.last) = c.in_ok-last.ensures.answers tells judged in
    let first_known : AreKnown objects c.add.new.self = c.in_ok-add.ensures.are objects (c.none-known.ensures.are objects) judged.named (IsVersion-judged objects c.args.first judged) in
    let known : AreKnown objects c.add-2.new.self = c.in_ok-add-2.ensures.are objects first_known last.1.named (IsVersion-judged objects c.in_ok-last.last last.1) in
    let answer : AreKnown objects c.add-2.new.self → EachAnswers objects c.in-Some.between.now (Err c.in_err-judge_each.field-0.0) =
    subst (λ (h : History). AreKnown (objects_after h c.args.folder.now) c.add-2.new.self → EachAnswers (objects_after h c.args.folder.now) c.in-Some.between.now (Err c.in_err-judge_each.field-0.0)) (c.in_ok-last.ensures.unwritten tells) (c.in_err-judge_each.ensures.answers tells) in
    let front : Refused (OneRefused objects (c.in-Some.between.now ++ c.in-Some.head.now ∷ [])) c.in_err-judge_each.field-0.0 =
    OneRefused-front objects c.in-Some.between.now c.in-Some.head.now c.in_err-judge_each.field-0.0 (answer known) in
    subst (λ (r : Result Version IdentityFault). LaterAnswers objects c.args.first.version c.args.later.now r) (sym is)
    (subst (λ (ms : List Link). Refused (OneRefused objects ms) c.in_err-judge_each.field-0.0) (sym c.in-Some.ensures.cases.0) front)

pub returns-clause-answers : goal.returns-clause-answers
returns-clause-answers g c = λ tells judged.
    let objects = objects_after (g.S.Store.history c.args.disk.now) c.args.folder.now in
    let last : JudgedAnswers objects c.in-Some.head.now (Ok c.in_ok-last.last) = c.in_ok-last.ensures.answers tells judged in
    let first_known : AreKnown objects c.add.new.self = c.in_ok-add.ensures.are objects (c.none-known.ensures.are objects) judged.named (IsVersion-judged objects c.args.first judged) in
    let known : AreKnown objects c.add-2.new.self = c.in_ok-add-2.ensures.are objects first_known last.1.named (IsVersion-judged objects c.in_ok-last.last last.1) in
    let answer : AreKnown objects c.add-2.new.self → EachAnswers objects c.in-Some.between.now (Ok tt) =
    subst (λ (h : History). AreKnown (objects_after h c.args.folder.now) c.add-2.new.self → EachAnswers (objects_after h c.args.folder.now) c.in-Some.between.now (Ok tt)) (c.in_ok-last.ensures.unwritten tells) (c.in_ok-judge_each.ensures.answers tells) in
    subst (λ (ms : List Link). Leads objects c.args.first.version ms c.in_ok-last.last.version) (sym c.in-Some.ensures.cases.0)
    (Leads-through objects c.args.first.version c.in_ok-last.last.version c.in-Some.between.now c.in-Some.head.now last.1.text (answer known)
    (VersionIn-judged objects c.in-Some.head.now c.in_ok-last.last last.0 last.1))

pub returns-clause-distinct : goal.returns-clause-distinct
returns-clause-distinct g c = λ tells trees versions judged first_tree first_object from.
    let objects = objects_after (g.S.Store.history c.args.disk.now) c.args.folder.now in
    let all : AreFrom objects trees versions (c.in-Some.between.now ++ c.in-Some.head.now ∷ []) = subst (AreFrom objects trees versions) c.in-Some.ensures.cases.0 from in
    let last : JudgedAnswers objects c.in-Some.head.now (Ok c.in_ok-last.last) = c.in_ok-last.ensures.answers tells judged in
    let head : IsFrom objects trees versions c.in-Some.head.now = IsFrom-last objects trees versions c.in-Some.between.now c.in-Some.head.now all in
    let named : NamesVersion objects c.in-Some.head.now.tree c.in_ok-last.last.object = subst (λ (tree : Name). NamesVersion objects tree c.in_ok-last.last.object) last.0 last.1.named in
    let last_tree : Contains trees c.in_ok-last.last.tree = subst (Contains trees) (sym last.0) head.tree in
    let last_object : Contains versions c.in_ok-last.last.object = head.version c.in_ok-last.last.object named in
    let tree_is_known = unknown-first trees c.none-known.result.trees c.add.new.self.trees c.args.first.tree c.none-known.ensures.trees c.in_ok-add.ensures.trees first_tree in
    let object_is_known = unknown-first versions c.none-known.result.objects c.add.new.self.objects c.args.first.object c.none-known.ensures.objects c.in_ok-add.ensures.objects first_object in
    let trees_stay = unknown-added trees c.add.new.self.trees c.add-2.new.self.trees c.in_ok-last.last.tree c.in_ok-add-2.ensures.trees in
    let objects_stay = unknown-added versions c.add.new.self.objects c.add-2.new.self.objects c.in_ok-last.last.object c.in_ok-add-2.ensures.objects in
    let step : g.S.Store.object_reads c.next_version.new.disk + unread trees versions c.add-2.new.self ≤ g.S.Store.object_reads c.args.disk.now + unread trees versions c.add.new.self =
    ⊎_elim (λ (same : c.args.first.tree ≡ c.in_ok-last.last.tree). omega (arith, c.in_ok-last.ensures.same_tree (sym last.0 ∙ sym same), trees_stay, objects_stay))
    (λ fewer_trees. ⊎_elim
    (λ (same : c.args.first.object ≡ c.in_ok-last.last.object). omega (arith, c.in_ok-last.ensures.same_object tells (subst (NamesVersion objects c.in-Some.head.now.tree) (sym same) named), fewer_trees, objects_stay))
    (λ fewer_objects. omega (arith, c.in_ok-last.ensures.reads, fewer_trees, fewer_objects))
    (unknown-second versions c.none-known.result.objects c.add.new.self.objects c.add-2.new.self.objects c.args.first.object c.in_ok-last.last.object c.none-known.ensures.objects c.in_ok-add.ensures.objects c.in_ok-add-2.ensures.objects last_object))
    (unknown-second trees c.none-known.result.trees c.add.new.self.trees c.add-2.new.self.trees c.args.first.tree c.in_ok-last.last.tree c.none-known.ensures.trees c.in_ok-add.ensures.trees c.in_ok-add-2.ensures.trees last_tree) in
    let between : AreFrom objects trees versions c.in-Some.between.now = AreFrom-front objects trees versions c.in-Some.between.now c.in-Some.head.now all in
    let rest = c.in_ok-judge_each.ensures.once tells trees versions (subst (λ (h : History). AreFrom (objects_after h c.args.folder.now) trees versions c.in-Some.between.now) (sym (c.in_ok-last.ensures.unwritten tells)) between) in
    omega (arith, tree_is_known, object_is_known, step, rest)
