use Rattle.std.proofs.Common.{◌≡◌, ◌≢◌, ◌≤◌, ◌+◌, inl, inr, length, List, [], ◌∷◌, ◌++◌, Bool, true, false, nat_eq, Some, None, Result, Err, Ok, refl, sym, ◌∙◌, ap, subst, rules, arith, length-append}
use Rattle.std.specs.List.{slice_get}
use Rattle.std.proofs.lemmas.List.{length-reverse}
use Rattle.std.proofs.lemmas.Option.{slice_get_within}
use Rattle.gb_text.specs.declared.id.Name.{Name}
use Rattle.gb_store.specs.Files.{History}
use Rattle.gb_store.proofs.FaultLemmas.{KeepsFaults_then}
use Rattle.object_store.specs.Held.{objects_after}
use Rattle.commit_walk.specs.Above.{AboveAnswers, IsChainAbove}
use Rattle.commit_walk.specs.Answers.{CommitRefused, StepAnswers}
use Rattle.commit_walk.specs.Distinct.{AreDistinct}
use Rattle.commit_walk.specs.Queues.{Adds}
use Rattle.commit_walk.specs.declared.above.Above.{Above}
use Rattle.commit_walk.specs.declared.below.Met.{Met}
use Rattle.commit_walk.specs.declared.fault.WalkStop.{WalkStop}
use Rattle.commit_walk.proofs.AboveLemmas.{Follows, Follows-before, Follows-later, Follows-step, Follows-whole, OnChain-known, OnChain-start, above_refused, counts_one, counts_others, not_both}
use Rattle.commit_walk.proofs.FrontierLemmas.{Front, Front-start, Front-step, Front-closed, Frontier, Frontier-start, Frontier-step, Frontier-whole, Frontier-read_next, Frontier-reads, Frontier-too_many_met, Frontier-once}
use Rattle.commit_walk.proofs.PassingLemmas.{name_differs, name_same}
use Rattle.commit_walk.proofs.above.walk_above.Goals.{else-is_chain-via-then-is_chain+else-eq, else-is_chain-via-else-is_chain, then-is_chain-2, else-is_chain-2}
use Rattle.commit_walk.proofs.above.walk_above.Goals as goal

pub loop-place-init : goal.loop-place-init
loop-place-init g c =
    let objects = objects_after (g.S.Store.history c.args.disk.now) c.args.folder.now in
    let heads = c.args.head.now ∷ [] in
    let names = c.add.new.self.names.items in
    let adds : Adds [] heads names = subst (λ (old : List Name). Adds old heads names) c.new-queue.ensures.empty c.in_ok-add.ensures.adds in
    record {
      queue = c.in_ok-add.ensures.queue;
      front = subst (λ (walk : List Met). Front heads names walk) (sym c.new-walk.ensures.items) (Front-start heads names adds);
      frontier = λ tells. subst (λ (walk : List Met). Frontier objects heads names walk) (sym c.new-walk.ensures.items) (Frontier-start objects heads names adds);
      follows = λ tells. subst (λ (walk : List Met). Follows objects c.args.head.now c.args.known.now true names walk) (sym c.new-walk.ensures.items)
          (OnChain-start objects c.args.head.now c.args.known.now names adds c.in_ok-add.ensures.queue.once);
      count = ap length c.new-walk.ensures.items;
      unwritten = λ tells. refl;
      reads = omega arith;
      within = omega arith;
      caused = record { counts = omega arith; cause = λ f. absurd f; told = λ f. refl; calm = λ calm. (λ f. f, calm) };
    }

pub loop-place-preserved : goal.loop-place-preserved
loop-place-preserved g c =
    let objects = objects_after (g.S.Store.history c.args.disk.now) c.args.folder.now in
    let heads = c.args.head.now ∷ [] in
    let names = c.loop-place.queue.names.items in
    let new = c.step.new.queue.names.items in
    let walk = c.loop-place.walk.items in
    let name = c.in-Some.name in
    let met = c.in_ok-met.met in
    let before = c.loop-place.invariant in
    let at : slice_get names c.loop-place.place ≡ Some name = sym c.get.ensures ∙ c.in-Some.is in
    let next : slice_get names (length walk) ≡ Some name = ap (slice_get names) before.count ∙ at in
    let within = slice_get_within names c.loop-place.place name at in
    let adds = c.in_ok-met.ensures.adds in
    let longer : length new ≡ length (names ++ adds.rest) = ap length adds.kept in
    let last : length c.push.new.self.items ≡ length (walk ++ met ∷ []) = ap length c.in_ok-push.ensures.items in
    let differ : c.loop-place.is_chain ≡ true → name ≢ c.args.known.now = elim c.else-is_chain.branch [
      | else-is_chain-via-then-is_chain+else-eq w ↦ λ on. name_differs name c.args.known.now (sym w.eq.ensures ∙ w.if-eq.false)
      | else-is_chain-via-else-is_chain w ↦ λ on. absurd (not_both c.loop-place.is_chain on w.if-is_chain.false)
    ] in
    let stays : c.if-is_chain-2.is_chain ≡ true → (c.loop-place.is_chain ≡ true) × (length met.parents ≡ 1) = elim c.if-is_chain-2.branch [
      | then-is_chain-2 w ↦ λ on. (w.if-is_chain-2.true, counts_one c.if-is_chain-2.is_chain w.len.result (length met.parents) w.is_chain-is w.len.ensures on)
      | else-is_chain-2 w ↦ λ on. absurd (not_both c.if-is_chain-2.is_chain on (w.is_chain-is ∙ w.if-is_chain-2.false))
    ] in
    let leaves : c.if-is_chain-2.is_chain ≡ false → c.loop-place.is_chain ≡ true → length met.parents ≢ 1 = elim c.if-is_chain-2.branch [
      | then-is_chain-2 w ↦ λ off on. counts_others c.if-is_chain-2.is_chain w.len.result (length met.parents) w.is_chain-is w.len.ensures off
      | else-is_chain-2 w ↦ λ off on. absurd (not_both c.loop-place.is_chain on w.if-is_chain-2.false)
    ] in
    record {
      queue = c.in_ok-met.ensures.queue;
      front = subst (λ (walk : List Met). Front heads new walk) (sym c.in_ok-push.ensures.items) (Front-step heads names new walk name met before.front next c.in_ok-met.ensures.named adds);
      frontier = λ tells.
          let answer : StepAnswers objects name (Ok met) = subst (λ (h : History). StepAnswers (objects_after h c.args.folder.now) name (Ok met)) (before.unwritten tells) (c.in_ok-met.ensures.answers tells) in
          subst (λ (walk : List Met). Frontier objects heads new walk) (sym c.in_ok-push.ensures.items)
          (Frontier-step objects heads names new walk name met (before.frontier tells) next c.in_ok-met.ensures.named answer adds);
      follows = λ tells.
          let answer : StepAnswers objects name (Ok met) = subst (λ (h : History). StepAnswers (objects_after h c.args.folder.now) name (Ok met)) (before.unwritten tells) (c.in_ok-met.ensures.answers tells) in
          subst (λ (walk : List Met). Follows objects c.args.head.now c.args.known.now c.if-is_chain-2.is_chain new walk) (sym c.in_ok-push.ensures.items)
          (Follows-step objects c.args.head.now c.args.known.now names walk name next met c.in_ok-met.ensures.named answer
          c.loop-place.is_chain c.if-is_chain-2.is_chain new (before.follows tells) differ stays leaves adds c.in_ok-met.ensures.queue.once);
      count = omega (arith, last, length-append walk (met ∷ []), before.count);
      unwritten = λ tells. c.in_ok-met.ensures.unwritten tells ∙ before.unwritten tells;
      reads = omega (arith, before.reads, c.in_ok-met.ensures.reads);
      within = omega (arith, within, longer, length-append names adds.rest);
      caused = KeepsFaults_then g.S.Store.never_fails g.S.Store.faults _ ⊥ c.args.disk.now c.loop-place.disk c.step.new.disk before.caused c.in_ok-met.ensures.caused (λ none. absurd none) (λ fails. absurd (cc));
    }

-- ---- no name is left

pub returns-in_default-clause-answers : goal.returns-in_default-clause-answers
returns-in_default-clause-answers g c = λ tells.
    let objects = objects_after (g.S.Store.history c.args.disk.now) c.args.folder.now in
    let names = c.loop-place.queue.names.items in
    let before = c.loop-place.invariant in
    let at : slice_get names (length c.loop-place.walk.items) ≡ None = ap (slice_get names) before.count ∙ sym c.get.ensures ∙ c.in_default.is in (
      Frontier-whole objects (c.args.head.now ∷ []) names c.loop-place.walk.items before.queue.once (before.frontier tells) at,
      Follows-whole objects c.args.head.now c.args.known.now names c.loop-place.walk.items c.loop-place.is_chain (before.follows tells) before.queue.once (before.frontier tells) at,
    )

pub returns-in_default-clause-closed : goal.returns-in_default-clause-closed
returns-in_default-clause-closed g c =
    let names = c.loop-place.queue.names.items in
    let before = c.loop-place.invariant in
    let at : slice_get names (length c.loop-place.walk.items) ≡ None = ap (slice_get names) before.count ∙ sym c.get.ensures ∙ c.in_default.is in
    Front-closed (c.args.head.now ∷ []) names c.loop-place.walk.items before.queue.once before.front at

pub returns-in_default-clause-each : goal.returns-in_default-clause-each
returns-in_default-clause-each g c = λ tells.
    let before = c.loop-place.invariant in
    Frontier-reads (objects_after (g.S.Store.history c.args.disk.now) c.args.folder.now) (c.args.head.now ∷ []) c.loop-place.queue.names.items c.loop-place.walk.items
    (g.S.Store.object_reads c.args.disk.now) (g.S.Store.object_reads c.loop-place.disk) c.loop-place.place before.queue.once (before.frontier tells) before.within before.reads

pub returns-in_default-clause-above : goal.returns-in_default-clause-above
returns-in_default-clause-above g c = λ tells met.
    let before = c.loop-place.invariant in
    let fewer = Follows-before (objects_after (g.S.Store.history c.args.disk.now) c.args.folder.now) c.args.head.now c.args.known.now c.loop-place.queue.names.items c.loop-place.walk.items c.loop-place.is_chain (before.follows tells) met in
    omega (arith, fewer, before.count, before.reads)

-- ---- the next name is the known one

pub returns-then-eq-clause-answers : goal.returns-then-eq-clause-answers
returns-then-eq-clause-answers g c = λ tells.
    let objects = objects_after (g.S.Store.history c.args.disk.now) c.args.folder.now in
    let names = c.loop-place.queue.names.items in
    let walk = c.loop-place.walk.items in
    let before = c.loop-place.invariant in
    let next : slice_get names (length walk) ≡ Some c.in-Some.name = ap (slice_get names) before.count ∙ sym c.get.ensures ∙ c.in-Some.is in
    let on : Follows objects c.args.head.now c.args.known.now true names walk =
    subst (λ (b : Bool). Follows objects c.args.head.now c.args.known.now b names walk) c.if-is_chain.true (before.follows tells) in
    subst (IsChainAbove objects c.args.head.now c.args.known.now) (sym c.reverse.ensures.items)
    (OnChain-known objects c.args.head.now c.args.known.now names walk c.in-Some.name on (Frontier-once objects (c.args.head.now ∷ []) names walk before.queue.once (before.frontier tells)) (before.frontier tells) next
    (name_same c.in-Some.name c.args.known.now (sym c.eq.ensures ∙ c.if-eq.true)))

pub returns-then-eq-clause-few : goal.returns-then-eq-clause-few
returns-then-eq-clause-few g c =
    let same : length c.reverse.new.self.items ≡ length c.loop-place.walk.items = ap length c.reverse.ensures.items ∙ length-reverse c.loop-place.walk.items in
    omega (arith, same, c.loop-place.invariant.count, c.loop-place-test.true)

pub returns-then-eq-clause-once : goal.returns-then-eq-clause-once
returns-then-eq-clause-once g c =
    let same : length c.reverse.new.self.items ≡ length c.loop-place.walk.items = ap length c.reverse.ensures.items ∙ length-reverse c.loop-place.walk.items in
    omega (arith, same, c.loop-place.invariant.count, c.loop-place.invariant.reads)

pub returns-then-eq-clause-each : goal.returns-then-eq-clause-each
returns-then-eq-clause-each g c = λ tells.
    let before = c.loop-place.invariant in
    Frontier-reads (objects_after (g.S.Store.history c.args.disk.now) c.args.folder.now) (c.args.head.now ∷ []) c.loop-place.queue.names.items c.loop-place.walk.items
    (g.S.Store.object_reads c.args.disk.now) (g.S.Store.object_reads c.loop-place.disk) c.loop-place.place before.queue.once (before.frontier tells) before.within before.reads

pub returns-then-eq-clause-above : goal.returns-then-eq-clause-above
returns-then-eq-clause-above g c = λ tells met.
    let before = c.loop-place.invariant in
    let fewer = Follows-before (objects_after (g.S.Store.history c.args.disk.now) c.args.folder.now) c.args.head.now c.args.known.now c.loop-place.queue.names.items c.loop-place.walk.items c.loop-place.is_chain (before.follows tells) met in
    omega (arith, fewer, before.count, before.reads)

-- ---- the next commit is not had

pub returns-in_err-met-clause-answers : goal.returns-in_err-met-clause-answers
returns-in_err-met-clause-answers g c = λ tells.
    let objects = objects_after (g.S.Store.history c.args.disk.now) c.args.folder.now in
    let names = c.loop-place.queue.names.items in
    let before = c.loop-place.invariant in
    let stop = c.in_err-met.field-0.0 in
    let is : c.from_residual-in_err-met.result ≡ Err stop = search rules in
    let refused : CommitRefused objects c.in-Some.name stop = subst (λ (h : History). CommitRefused (objects_after h c.args.folder.now) c.in-Some.name stop) (before.unwritten tells) (c.in_err-met.ensures.answers tells) in
    subst (λ (r : Result Above WalkStop). AboveAnswers objects c.args.head.now c.args.known.now r) (sym is)
    (above_refused objects c.args.head.now c.args.known.now names c.loop-place.walk.items c.loop-place.place c.in-Some.name stop (before.frontier tells) (sym c.get.ensures ∙ c.in-Some.is) refused)

pub returns-in_err-met-clause-each : goal.returns-in_err-met-clause-each
returns-in_err-met-clause-each g c = λ tells.
    let before = c.loop-place.invariant in
    Frontier-read_next (objects_after (g.S.Store.history c.args.disk.now) c.args.folder.now) (c.args.head.now ∷ []) c.loop-place.queue.names.items c.loop-place.walk.items
    (g.S.Store.object_reads c.args.disk.now) (g.S.Store.object_reads c.loop-place.disk) (g.S.Store.object_reads c.step.new.disk) c.loop-place.place c.in-Some.name
    before.queue.once (before.frontier tells) (sym c.get.ensures ∙ c.in-Some.is) before.reads c.in_err-met.ensures.reads

pub returns-in_err-met-clause-above : goal.returns-in_err-met-clause-above
returns-in_err-met-clause-above g c = λ tells met.
    let names = c.loop-place.queue.names.items in
    let walk = c.loop-place.walk.items in
    let name = c.in-Some.name in
    let before = c.loop-place.invariant in
    let next : slice_get names (length walk) ≡ Some name = ap (slice_get names) before.count ∙ sym c.get.ensures ∙ c.in-Some.is in
    let differ : c.loop-place.is_chain ≡ true → name ≢ c.args.known.now = elim c.else-is_chain.branch [
      | else-is_chain-via-then-is_chain+else-eq w ↦ λ on. name_differs name c.args.known.now (sym w.eq.ensures ∙ w.if-eq.false)
      | else-is_chain-via-else-is_chain w ↦ λ on. absurd (not_both c.loop-place.is_chain on w.if-is_chain.false)
    ] in
    let later = Follows-later (objects_after (g.S.Store.history c.args.disk.now) c.args.folder.now) c.args.head.now c.args.known.now names walk name next c.loop-place.is_chain (before.follows tells) differ met.above met.chain in
    omega (arith, later, before.count, before.reads, c.in_err-met.ensures.reads)

-- ---- there is no room for it

pub returns-in_err-push-clause-each : goal.returns-in_err-push-clause-each
returns-in_err-push-clause-each g c = λ tells.
    let before = c.loop-place.invariant in
    Frontier-read_next (objects_after (g.S.Store.history c.args.disk.now) c.args.folder.now) (c.args.head.now ∷ []) c.loop-place.queue.names.items c.loop-place.walk.items
    (g.S.Store.object_reads c.args.disk.now) (g.S.Store.object_reads c.loop-place.disk) (g.S.Store.object_reads c.step.new.disk) c.loop-place.place c.in-Some.name
    before.queue.once (before.frontier tells) (sym c.get.ensures ∙ c.in-Some.is) before.reads c.in_ok-met.ensures.reads

pub returns-in_err-push-clause-above : goal.returns-in_err-push-clause-above
returns-in_err-push-clause-above g c = λ tells met.
    let names = c.loop-place.queue.names.items in
    let walk = c.loop-place.walk.items in
    let name = c.in-Some.name in
    let before = c.loop-place.invariant in
    let next : slice_get names (length walk) ≡ Some name = ap (slice_get names) before.count ∙ sym c.get.ensures ∙ c.in-Some.is in
    let differ : c.loop-place.is_chain ≡ true → name ≢ c.args.known.now = elim c.else-is_chain.branch [
      | else-is_chain-via-then-is_chain+else-eq w ↦ λ on. name_differs name c.args.known.now (sym w.eq.ensures ∙ w.if-eq.false)
      | else-is_chain-via-else-is_chain w ↦ λ on. absurd (not_both c.loop-place.is_chain on w.if-is_chain.false)
    ] in
    let later = Follows-later (objects_after (g.S.Store.history c.args.disk.now) c.args.folder.now) c.args.head.now c.args.known.now names walk name next c.loop-place.is_chain (before.follows tells) differ met.above met.chain in
    omega (arith, later, before.count, before.reads, c.in_ok-met.ensures.reads)

-- ---- there are too many

pub returns-clause-answers : goal.returns-clause-answers
returns-clause-answers g c = λ tells.
    let objects = objects_after (g.S.Store.history c.args.disk.now) c.args.folder.now in
    let before = c.loop-place.invariant in
    let far : length c.loop-place.walk.items ≡ 65537 = omega (arith, before.count, c.loop-place.auto.place-end, c.loop-place-test.false) in
    Frontier-too_many_met objects (c.args.head.now ∷ []) c.loop-place.queue.names.items c.loop-place.walk.items before.queue.once (before.frontier tells) (omega (arith, far))

pub returns-clause-each : goal.returns-clause-each
returns-clause-each g c = λ tells.
    let before = c.loop-place.invariant in
    Frontier-reads (objects_after (g.S.Store.history c.args.disk.now) c.args.folder.now) (c.args.head.now ∷ []) c.loop-place.queue.names.items c.loop-place.walk.items
    (g.S.Store.object_reads c.args.disk.now) (g.S.Store.object_reads c.loop-place.disk) c.loop-place.place before.queue.once (before.frontier tells) before.within before.reads

pub returns-clause-above : goal.returns-clause-above
returns-clause-above g c = λ tells met.
    let before = c.loop-place.invariant in
    let fewer = Follows-before (objects_after (g.S.Store.history c.args.disk.now) c.args.folder.now) c.args.head.now c.args.known.now c.loop-place.queue.names.items c.loop-place.walk.items c.loop-place.is_chain (before.follows tells) met in
    omega (arith, fewer, before.count, before.reads)
