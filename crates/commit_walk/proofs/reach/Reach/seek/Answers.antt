use Rattle.std.proofs.Common.{◌≡◌, ◌<◌, ◌+◌, ◌∷◌, [], length, Contains, Some, slice_get, refl, sym, ◌∙◌, ap, subst, arith}
use Rattle.std.specs.Bool.{⊤}
use Rattle.std.proofs.lemmas.Option.{slice_get_within}
use Rattle.gb_store.specs.Files.{History}
use Rattle.gb_store.proofs.FaultLemmas.{KeepsFaults_then}
use Rattle.object_store.specs.Held.{objects_after}
use Rattle.commit_walk.specs.Queues.{Adds}
use Rattle.commit_walk.specs.Reaches.{IsReach, Reached, TurnedIn, known}
use Rattle.commit_walk.specs.declared.reach.Reach.{Reach}
use Rattle.commit_walk.proofs.ReachLemmas.{IsReach-more, IsReach-start, IsReach-turn, Reached-more, Reached-start, Reached-turn, all_read, turned_more}
use Rattle.commit_walk.proofs.SearchLemmas.{Seeks-next, Seeks-start, Seeks-turn, reads_nothing, reads_until}
use Rattle.commit_walk.proofs.reach.Reach.seek.Goals as goal

pub loop-place-init : goal.loop-place-init
loop-place-init g c =
    let objects = objects_after (g.S.Store.history c.args.disk.now) c.args.folder.now in
    let old = c.new-reach.result in
    let head = c.args.head.now in
    let new : Reach = record { queue = c.add.new.self; walk = old.walk; wrong = old.wrong } in
    let adds : Adds (known old) (head ∷ []) (known new) = c.in_ok-add.ensures.adds in
    let none : length (known old) ≡ 0 = ap length c.new-reach.ensures.names in
    let is = IsReach-start old c.new-reach.ensures.names c.new-reach.ensures.walk in
    record {
      queue = c.in_ok-add.ensures.queue;
      reach = subst (IsReach (head ∷ []) new) none (IsReach-more [] old new head (length (known old)) is (omega arith) adds refl refl);
      reached = λ tells. subst (Reached objects (head ∷ []) new) none
          (Reached-more objects [] old new head (Reached-start objects old c.new-reach.ensures.names c.new-reach.ensures.walk c.new-reach.ensures.wrong) adds refl refl);
      seeks = λ tells. Seeks-start objects head c.args.sought.now (known old) new c.new-reach.ensures.names adds;
      unwritten = λ tells. refl;
      reads = omega arith;
      within = omega arith;
      caused = record { counts = omega arith; cause = λ f. absurd f; told = λ f. refl; calm = λ calm. (λ f. f, calm) };
    }

pub loop-place-preserved : goal.loop-place-preserved
loop-place-preserved g c =
    let objects = objects_after (g.S.Store.history c.args.disk.now) c.args.folder.now in
    let head = c.args.head.now in
    let sought = c.args.sought.now in
    let old = c.loop-place.reach in
    let new = c.turn.new.self in
    let name = c.in-Some.name in
    let place = c.loop-place.place in
    let before = c.loop-place.invariant in
    let at : slice_get (known old) place ≡ Some name = sym c.get.ensures ∙ c.in-Some.is in
    let within : place < length (known old) = slice_get_within (known old) place name at in
    let apart : Contains (known old) sought → ⊥ = λ h. let is_known = c.leads_to.ensures.1 h in cc (sym c.if-leads_to.false ∙ is_known) in
    record {
      queue = c.in_ok-turn.ensures.queue;
      reach = IsReach-turn (head ∷ []) old new name place before.reach at c.in_ok-turn.ensures.turned;
      reached = λ tells.
          let turned : TurnedIn objects old new name = subst (λ (h : History). TurnedIn (objects_after h c.args.folder.now) old new name) (before.unwritten tells) (c.in_ok-turn.ensures.answers tells) in
          Reached-turn objects (head ∷ []) old new name place (before.reached tells) at turned;
      seeks = λ tells.
          let turned : TurnedIn objects old new name = subst (λ (h : History). TurnedIn (objects_after h c.args.folder.now) old new name) (before.unwritten tells) (c.in_ok-turn.ensures.answers tells) in
          Seeks-turn objects head sought old new name place (Seeks-next objects head sought (head ∷ []) old place (before.seeks tells) (before.reached tells) apart) at apart turned;
      unwritten = λ tells. c.in_ok-turn.ensures.unwritten tells ∙ before.unwritten tells;
      reads = omega (arith, before.reads, c.in_ok-turn.ensures.reads);
      within = omega (arith, within, turned_more (λ met. ⊤) (λ f. ⊤) old new name c.in_ok-turn.ensures.turned);
      caused = KeepsFaults_then g.S.Store.never_fails g.S.Store.faults _ ⊥ c.args.disk.now c.loop-place.disk c.turn.new.disk before.caused c.in_ok-turn.ensures.caused (λ none. absurd none) (λ fails. absurd (cc));
    }

pub returns-in_err-add-clause-until : goal.returns-in_err-add-clause-until
returns-in_err-add-clause-until g c = λ tells. reads_nothing (objects_after (g.S.Store.history c.args.disk.now) c.args.folder.now) c.args.head.now c.args.sought.now _ _ (omega arith)

pub returns-then-leads_to-clause-reach : goal.returns-then-leads_to-clause-reach
returns-then-leads_to-clause-reach g c = λ apart. absurd (apart (c.leads_to.ensures.0 c.if-leads_to.true))

pub returns-then-leads_to-clause-answers : goal.returns-then-leads_to-clause-answers
returns-then-leads_to-clause-answers g c = λ tells. record {
  below = (c.loop-place.invariant.reached tells).below;
  all = λ apart. absurd (apart (c.leads_to.ensures.0 c.if-leads_to.true));
}

pub returns-then-leads_to-clause-until : goal.returns-then-leads_to-clause-until
returns-then-leads_to-clause-until g c = λ tells.
    let before = c.loop-place.invariant in
    reads_until (objects_after (g.S.Store.history c.args.disk.now) c.args.folder.now) c.args.head.now c.args.sought.now c.loop-place.reach c.loop-place.place _ _ before.queue.once (before.seeks tells) before.within before.reads

pub returns-in_default-clause-reach : goal.returns-in_default-clause-reach
returns-in_default-clause-reach g c = λ apart.
    let all : c.loop-place.place ≡ length (known c.loop-place.reach) = all_read (known c.loop-place.reach) c.loop-place.place c.loop-place.invariant.within (sym c.get.ensures ∙ c.in_default.is) in
    subst (IsReach (c.args.head.now ∷ []) c.loop-place.reach) all c.loop-place.invariant.reach

pub returns-in_default-clause-answers : goal.returns-in_default-clause-answers
returns-in_default-clause-answers g c = λ tells.
    let objects = objects_after (g.S.Store.history c.args.disk.now) c.args.folder.now in
    let all : c.loop-place.place ≡ length (known c.loop-place.reach) = all_read (known c.loop-place.reach) c.loop-place.place c.loop-place.invariant.within (sym c.get.ensures ∙ c.in_default.is) in
    let reached = c.loop-place.invariant.reached tells in
    record {
      below = reached.below;
      all = λ apart. subst (Reached objects (c.args.head.now ∷ []) c.loop-place.reach) all reached;
    }

pub returns-in_default-clause-until : goal.returns-in_default-clause-until
returns-in_default-clause-until g c = λ tells.
    let before = c.loop-place.invariant in
    reads_until (objects_after (g.S.Store.history c.args.disk.now) c.args.folder.now) c.args.head.now c.args.sought.now c.loop-place.reach c.loop-place.place _ _ before.queue.once (before.seeks tells) before.within before.reads

pub returns-in_err-turn-clause-until : goal.returns-in_err-turn-clause-until
returns-in_err-turn-clause-until g c = λ tells.
    let objects = objects_after (g.S.Store.history c.args.disk.now) c.args.folder.now in
    let head = c.args.head.now in
    let sought = c.args.sought.now in
    let old = c.loop-place.reach in
    let place = c.loop-place.place in
    let before = c.loop-place.invariant in
    let at : slice_get (known old) place ≡ Some c.in-Some.name = sym c.get.ensures ∙ c.in-Some.is in
    let within = slice_get_within (known old) place c.in-Some.name at in
    let apart : Contains (known old) sought → ⊥ = λ h. let is_known = c.leads_to.ensures.1 h in cc (sym c.if-leads_to.false ∙ is_known) in
    reads_until objects head sought old (place + 1) _ _ before.queue.once (Seeks-next objects head sought (head ∷ []) old place (before.seeks tells) (before.reached tells) apart) (omega (arith, within)) (omega (arith, before.reads, c.in_err-turn.ensures.reads))

pub returns-clause-until : goal.returns-clause-until
returns-clause-until g c = λ tells.
    let before = c.loop-place.invariant in
    reads_until (objects_after (g.S.Store.history c.args.disk.now) c.args.folder.now) c.args.head.now c.args.sought.now c.loop-place.reach c.loop-place.place _ _ before.queue.once (before.seeks tells) before.within before.reads
