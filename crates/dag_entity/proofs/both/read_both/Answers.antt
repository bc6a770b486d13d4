use Rattle.std.proofs.Common.{rules, ◌≡◌, ◌≤◌, ◌+◌, ◌∷◌, [], length, Ok, Err, refl, sym, ◌∙◌, subst}
use Rattle.gb_store.specs.Files.{History}
use Rattle.object_store.specs.Held.{objects_after}
use Rattle.commit_walk.specs.Below.{AreBelow, IsBelow}
use Rattle.commit_walk.specs.Both.{BothAnswers as WalkBoth, IfWalk}
use Rattle.commit_walk.specs.declared.both.Both.TheVariants as walked
use Rattle.dag_entity.specs.Entities.{IsEntity}
use Rattle.dag_entity.specs.Joining.{BothAnswers, HasChild}
use Rattle.dag_entity.specs.Stops.{walk_stop}
use Rattle.dag_entity.proofs.BothLemmas.{walk_refuses}
use Rattle.dag_entity.proofs.PairLemmas.{child_means_under, under_means_child}
use Rattle.dag_entity.proofs.ReadLemmas.{reads_of_all, reads_of_walk}
use Rattle.dag_entity.proofs.both.read_both.Goals as goal

pub returns-in_err-walk_both-clause-answers : goal.returns-in_err-walk_both-clause-answers
returns-in_err-walk_both-clause-answers g c = λ tells.
    let objects = objects_after (g.S.Store.history c.args.disk.now) c.args.folder.now in
    let k = g.K.OpKind.meaning in
    let s = c.in_err-walk_both.field-0.0 in
    let is : c.from_residual.result ≡ Err (walk_stop s) = search rules in
    subst (λ r. BothAnswers k objects c.args.id.now c.args.first.now c.args.second.now c.args.authors.now r) (sym is)
    (walk_refuses k objects c.args.id.now c.args.authors.now c.args.first.now c.args.second.now s (c.in_err-walk_both.ensures.answers tells))

pub returns-in_err-walk_both-clause-reads : goal.returns-in_err-walk_both-clause-reads
returns-in_err-walk_both-clause-reads g c = λ tells. reads_of_walk g.K.OpKind.meaning _ _ _ _ (c.in_err-walk_both.ensures.each tells)

pub returns-in-Equal-clause-reads : goal.returns-in-Equal-clause-reads
returns-in-Equal-clause-reads g c = λ tells. reads_of_walk g.K.OpKind.meaning _ _ _ _ (c.in_ok-walk_both.ensures.each tells)

pub returns-in-Below-clause-reads : goal.returns-in-Below-clause-reads
returns-in-Below-clause-reads g c = λ tells. reads_of_walk g.K.OpKind.meaning _ _ _ _ (c.in_ok-walk_both.ensures.each tells)

pub returns-then-above-clause-answers : goal.returns-then-above-clause-answers
returns-then-above-clause-answers g c = λ tells.
    let objects = objects_after (g.S.Store.history c.args.disk.now) c.args.folder.now in
    let k = g.K.OpKind.meaning in
    let id = c.args.id.now in
    let one = c.args.first.now in
    let two = c.args.second.now in
    let walk = c.in-Walk.walk.items in
    let entity = c.in_ok-entity-in-Walk.entity in
    let same = c.in_ok-walk_both.ensures.unwritten tells in
    let found : WalkBoth objects one two (Ok (walked.Walk c.in-Walk.walk)) = subst (λ b. WalkBoth objects one two (Ok b)) c.in-Walk.is (c.in_ok-walk_both.ensures.answers tells) in
    let there : AreBelow (objects_after (g.S.Store.history c.walk_both.new.disk) c.args.folder.now) (one ∷ two ∷ []) walk =
    subst (λ (h : History). AreBelow (objects_after h c.args.folder.now) (one ∷ two ∷ []) walk) (sym same) found.1 in
    let is : IsEntity k objects id (one ∷ two ∷ []) c.args.authors.now entity =
    subst (λ (h : History). IsEntity k (objects_after h c.args.folder.now) id (one ∷ two ∷ []) c.args.authors.now entity) same (c.in_ok-entity-in-Walk.ensures.answers tells there) in
    let child : HasChild walk one = subst (λ l. HasChild l one) c.deref.ensures.value (c.has_child-above.ensures.0 c.if-above.true) in
    (found.0, child_means_under k objects id one two c.args.authors.now entity is walk found.1 child, is)

pub returns-else-above-clause-answers : goal.returns-else-above-clause-answers
returns-else-above-clause-answers g c = λ tells.
    let objects = objects_after (g.S.Store.history c.args.disk.now) c.args.folder.now in
    let k = g.K.OpKind.meaning in
    let id = c.args.id.now in
    let one = c.args.first.now in
    let two = c.args.second.now in
    let walk = c.in-Walk.walk.items in
    let entity = c.in_ok-entity-in-Walk.entity in
    let same = c.in_ok-walk_both.ensures.unwritten tells in
    let found : WalkBoth objects one two (Ok (walked.Walk c.in-Walk.walk)) = subst (λ b. WalkBoth objects one two (Ok b)) c.in-Walk.is (c.in_ok-walk_both.ensures.answers tells) in
    let there : AreBelow (objects_after (g.S.Store.history c.walk_both.new.disk) c.args.folder.now) (one ∷ two ∷ []) walk =
    subst (λ (h : History). AreBelow (objects_after h c.args.folder.now) (one ∷ two ∷ []) walk) (sym same) found.1 in
    let is : IsEntity k objects id (one ∷ two ∷ []) c.args.authors.now entity =
    subst (λ (h : History). IsEntity k (objects_after h c.args.folder.now) id (one ∷ two ∷ []) c.args.authors.now entity) same (c.in_ok-entity-in-Walk.ensures.answers tells there) in
    let apart : IsBelow objects (two ∷ []) one → ⊥ = λ b.
    let child : HasChild c.deref.result.now one = subst (λ l. HasChild l one) (sym c.deref.ensures.value) (under_means_child objects one two walk found.1 found.0 b) in
    let has = c.has_child-above.ensures.1 child in
    cc (sym c.if-above.false ∙ has) in
    (record { are = refl; one_apart = apart; two_apart = found.0 }, is)

pub returns-in_err-entity-in-Walk-clause-reads : goal.returns-in_err-entity-in-Walk-clause-reads
returns-in_err-entity-in-Walk-clause-reads g c = λ tells.
    let objects = objects_after (g.S.Store.history c.args.disk.now) c.args.folder.now in
    let one = c.args.first.now in
    let two = c.args.second.now in
    let before = g.S.Store.object_reads c.args.disk.now in
    let mid = g.S.Store.object_reads c.walk_both.new.disk in
    let after = g.S.Store.object_reads c.read_walked.new.disk in
    let walk = c.in-Walk.walk.items in
    let found : WalkBoth objects one two (Ok (walked.Walk c.in-Walk.walk)) = subst (λ b. WalkBoth objects one two (Ok b)) c.in-Walk.is (c.in_ok-walk_both.ensures.answers tells) in
    let once : mid ≤ before + length walk = subst (λ b. IfWalk (Ok b) (λ w. mid ≤ before + length w)) c.in-Walk.is c.in_ok-walk_both.ensures.once in
    reads_of_all g.K.OpKind.meaning objects (one ∷ two ∷ []) walk before mid after found.1 once c.in_err-entity-in-Walk.ensures.reads

pub returns-then-above-clause-reads : goal.returns-then-above-clause-reads
returns-then-above-clause-reads g c = λ tells.
    let objects = objects_after (g.S.Store.history c.args.disk.now) c.args.folder.now in
    let one = c.args.first.now in
    let two = c.args.second.now in
    let before = g.S.Store.object_reads c.args.disk.now in
    let mid = g.S.Store.object_reads c.walk_both.new.disk in
    let after = g.S.Store.object_reads c.read_walked.new.disk in
    let walk = c.in-Walk.walk.items in
    let found : WalkBoth objects one two (Ok (walked.Walk c.in-Walk.walk)) = subst (λ b. WalkBoth objects one two (Ok b)) c.in-Walk.is (c.in_ok-walk_both.ensures.answers tells) in
    let once : mid ≤ before + length walk = subst (λ b. IfWalk (Ok b) (λ w. mid ≤ before + length w)) c.in-Walk.is c.in_ok-walk_both.ensures.once in
    reads_of_all g.K.OpKind.meaning objects (one ∷ two ∷ []) walk before mid after found.1 once c.in_ok-entity-in-Walk.ensures.reads

pub returns-else-above-clause-reads : goal.returns-else-above-clause-reads
returns-else-above-clause-reads g c = λ tells.
    let objects = objects_after (g.S.Store.history c.args.disk.now) c.args.folder.now in
    let one = c.args.first.now in
    let two = c.args.second.now in
    let before = g.S.Store.object_reads c.args.disk.now in
    let mid = g.S.Store.object_reads c.walk_both.new.disk in
    let after = g.S.Store.object_reads c.read_walked.new.disk in
    let walk = c.in-Walk.walk.items in
    let found : WalkBoth objects one two (Ok (walked.Walk c.in-Walk.walk)) = subst (λ b. WalkBoth objects one two (Ok b)) c.in-Walk.is (c.in_ok-walk_both.ensures.answers tells) in
    let once : mid ≤ before + length walk = subst (λ b. IfWalk (Ok b) (λ w. mid ≤ before + length w)) c.in-Walk.is c.in_ok-walk_both.ensures.once in
    reads_of_all g.K.OpKind.meaning objects (one ∷ two ∷ []) walk before mid after found.1 once c.in_ok-entity-in-Walk.ensures.reads
