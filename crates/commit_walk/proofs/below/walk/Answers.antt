use Rattle.std.proofs.Common.{◌≡◌, ◌≤◌, ◌+◌, length, List, [], ◌∷◌, ◌++◌, Some, None, Result, Vec, Err, Ok, slice_get, refl, sym, ◌∙◌, ap, subst, rules, arith, length-append}
use Rattle.std.specs.declared.alloc.Global.{Global}
use Rattle.std.proofs.lemmas.Option.{slice_get_within}
use Rattle.gb_text.specs.declared.id.Name.{Name}
use Rattle.gb_store.specs.Files.{History}
use Rattle.gb_store.proofs.FaultLemmas.{KeepsFaults_then}
use Rattle.object_store.specs.Held.{objects_after}
use Rattle.object_store.specs.Typed.{commit_at}
use Rattle.commit_walk.specs.Queues.{Adds}
use Rattle.commit_walk.specs.Answers.{CommitRefused, StepAnswers, WalkAnswers}
use Rattle.commit_walk.specs.declared.below.Met.{Met}
use Rattle.commit_walk.specs.declared.fault.WalkStop.{WalkStop}
use Rattle.commit_walk.proofs.FrontierLemmas.{Front, Front-start, Front-step, Front-closed, Frontier, Frontier-start, Frontier-step, Frontier-whole, Frontier-read_next, Frontier-too_many, Frontier-refused}
use Rattle.commit_walk.proofs.below.walk.Goals as goal

pub loop-place-init : goal.loop-place-init
loop-place-init g c =
    let objects = objects_after (g.S.Store.history c.args.disk.now) c.args.folder.now in
    let heads = c.args.heads.now in
    let names = c.add.new.self.names.items in
    let adds : Adds [] heads names = subst (λ (old : List Name). Adds old heads names) c.new-queue.ensures.empty c.in_ok-add.ensures.adds in
    record {
      queue = c.in_ok-add.ensures.queue;
      front = subst (λ (walk : List Met). Front heads names walk) (sym c.new-walk.ensures.items) (Front-start heads names adds);
      frontier = λ tells. subst (λ (walk : List Met). Frontier objects heads names walk) (sym c.new-walk.ensures.items) (Frontier-start objects heads names adds);
      count = ap length c.new-walk.ensures.items;
      unwritten = λ tells. refl;
      reads = omega arith;
      within = omega arith;
      caused = record { counts = omega arith; cause = λ f. absurd f; told = λ f. refl; calm = λ calm. (λ f. f, calm) };
    }

pub loop-place-preserved : goal.loop-place-preserved
loop-place-preserved g c =
    let objects = objects_after (g.S.Store.history c.args.disk.now) c.args.folder.now in
    let heads = c.args.heads.now in
    let names = c.loop-place.queue.names.items in
    let new = c.step.new.queue.names.items in
    let walk = c.loop-place.walk.items in
    let met = c.in_ok-met.met in
    let before = c.loop-place.invariant in
    let at : slice_get names c.loop-place.place ≡ Some c.in-Some.name = sym c.get.ensures ∙ c.in-Some.is in
    let within = slice_get_within names c.loop-place.place c.in-Some.name at in
    let adds = c.in_ok-met.ensures.adds in
    let longer : length new ≡ length (names ++ adds.rest) = ap length adds.kept in
    let last : length c.push.new.self.items ≡ length (walk ++ met ∷ []) = ap length c.in_ok-push.ensures.items in
    record {
      queue = c.in_ok-met.ensures.queue;
      front = subst (λ (walk : List Met). Front heads new walk) (sym c.in_ok-push.ensures.items)
          (Front-step heads names new walk c.in-Some.name met before.front (ap (slice_get names) before.count ∙ at) c.in_ok-met.ensures.named adds);
      frontier = λ tells.
          let answer : StepAnswers objects c.in-Some.name (Ok met) = subst (λ (h : History). StepAnswers (objects_after h c.args.folder.now) c.in-Some.name (Ok met)) (before.unwritten tells) (c.in_ok-met.ensures.answers tells) in
          subst (λ (walk : List Met). Frontier objects heads new walk) (sym c.in_ok-push.ensures.items)
          (Frontier-step objects heads names new walk c.in-Some.name met (before.frontier tells) (ap (slice_get names) before.count ∙ at) c.in_ok-met.ensures.named answer adds);
      count = omega (arith, last, length-append walk (met ∷ []), before.count);
      unwritten = λ tells. c.in_ok-met.ensures.unwritten tells ∙ before.unwritten tells;
      reads = omega (arith, before.reads, c.in_ok-met.ensures.reads);
      within = omega (arith, within, longer, length-append names adds.rest);
      caused = KeepsFaults_then g.S.Store.never_fails g.S.Store.faults _ ⊥ c.args.disk.now c.loop-place.disk c.step.new.disk before.caused c.in_ok-met.ensures.caused (λ none. absurd none) (λ fails. absurd (cc));
    }

pub returns-in_default-clause-answers : goal.returns-in_default-clause-answers
returns-in_default-clause-answers g c = λ tells.
    let objects = objects_after (g.S.Store.history c.args.disk.now) c.args.folder.now in
    let names = c.loop-place.queue.names.items in
    let before = c.loop-place.invariant in
    let at : slice_get names (length c.loop-place.walk.items) ≡ None = ap (slice_get names) before.count ∙ sym c.get.ensures ∙ c.in_default.is in (
      Frontier-whole objects c.args.heads.now names c.loop-place.walk.items before.queue.once (before.frontier tells) at,
      omega (arith, before.count, c.loop-place-test.true),
    )

pub returns-in_default-clause-closed : goal.returns-in_default-clause-closed
returns-in_default-clause-closed g c =
    let names = c.loop-place.queue.names.items in
    let before = c.loop-place.invariant in
    let at : slice_get names (length c.loop-place.walk.items) ≡ None = ap (slice_get names) before.count ∙ sym c.get.ensures ∙ c.in_default.is in
    Front-closed c.args.heads.now names c.loop-place.walk.items before.queue.once before.front at

pub returns-in_default-get-clause-closed : goal.returns-in_default-get-clause-closed
returns-in_default-get-clause-closed g c =
    let names = c.loop-place.queue.names.items in
    let before = c.loop-place.invariant in
    let far : length c.loop-place.walk.items ≡ 65536 = omega (arith, before.count, c.loop-place.auto.place-end, c.loop-place-test.false) in
    let at : slice_get names (length c.loop-place.walk.items) ≡ None = ap (slice_get names) far ∙ sym c.get-2.ensures ∙ c.in_default-get.is in
    Front-closed c.args.heads.now names c.loop-place.walk.items before.queue.once before.front at

pub returns-in_default-get-clause-answers : goal.returns-in_default-get-clause-answers
returns-in_default-get-clause-answers g c = λ tells.
    let objects = objects_after (g.S.Store.history c.args.disk.now) c.args.folder.now in
    let names = c.loop-place.queue.names.items in
    let before = c.loop-place.invariant in
    let far : length c.loop-place.walk.items ≡ 65536 = omega (arith, before.count, c.loop-place.auto.place-end, c.loop-place-test.false) in
    let at : slice_get names (length c.loop-place.walk.items) ≡ None = ap (slice_get names) far ∙ sym c.get-2.ensures ∙ c.in_default-get.is in
    (Frontier-whole objects c.args.heads.now names c.loop-place.walk.items before.queue.once (before.frontier tells) at, omega (arith, far))

pub returns-in_err-met-clause-answers : goal.returns-in_err-met-clause-answers
returns-in_err-met-clause-answers g c = λ tells.
    let objects = objects_after (g.S.Store.history c.args.disk.now) c.args.folder.now in
    let names = c.loop-place.queue.names.items in
    let before = c.loop-place.invariant in
    let stop = c.in_err-met.field-0.0 in
    let is : c.from_residual-in_err-met.result ≡ Err stop = search rules in
    let refused : CommitRefused objects c.in-Some.name stop = subst (λ (h : History). CommitRefused (objects_after h c.args.folder.now) c.in-Some.name stop) (before.unwritten tells) (c.in_err-met.ensures.answers tells) in
    subst (λ (r : Result (Vec Met Global) WalkStop). WalkAnswers objects c.args.heads.now r) (sym is)
    (Frontier-refused objects c.args.heads.now names c.loop-place.walk.items c.loop-place.place c.in-Some.name stop (before.frontier tells) (sym c.get.ensures ∙ c.in-Some.is) refused)

pub returns-in_err-met-clause-each : goal.returns-in_err-met-clause-each
returns-in_err-met-clause-each g c = λ tells.
    let before = c.loop-place.invariant in
    Frontier-read_next (objects_after (g.S.Store.history c.args.disk.now) c.args.folder.now) c.args.heads.now c.loop-place.queue.names.items c.loop-place.walk.items
    (g.S.Store.object_reads c.args.disk.now) (g.S.Store.object_reads c.loop-place.disk) (g.S.Store.object_reads c.step.new.disk) c.loop-place.place c.in-Some.name
    before.queue.once (before.frontier tells) (sym c.get.ensures ∙ c.in-Some.is) before.reads c.in_err-met.ensures.reads

pub returns-in_err-push-clause-each : goal.returns-in_err-push-clause-each
returns-in_err-push-clause-each g c = λ tells.
    let before = c.loop-place.invariant in
    Frontier-read_next (objects_after (g.S.Store.history c.args.disk.now) c.args.folder.now) c.args.heads.now c.loop-place.queue.names.items c.loop-place.walk.items
    (g.S.Store.object_reads c.args.disk.now) (g.S.Store.object_reads c.loop-place.disk) (g.S.Store.object_reads c.step.new.disk) c.loop-place.place c.in-Some.name
    before.queue.once (before.frontier tells) (sym c.get.ensures ∙ c.in-Some.is) before.reads c.in_ok-met.ensures.reads

pub returns-in_err-meet-clause-answers : goal.returns-in_err-meet-clause-answers
returns-in_err-meet-clause-answers g c = λ tells.
    let objects = objects_after (g.S.Store.history c.args.disk.now) c.args.folder.now in
    let names = c.loop-place.queue.names.items in
    let before = c.loop-place.invariant in
    let name = c.in-Some-get.name in
    let stop = c.in_err-meet.field-0.0 in
    let is : c.from_residual-in_err-meet.result ≡ Err stop = search rules in
    let refused : CommitRefused objects name stop = subst (λ (h : History). CommitRefused (objects_after h c.args.folder.now) name stop) (before.unwritten tells) (c.in_err-meet.ensures.answers tells) in
    subst (λ (r : Result (Vec Met Global) WalkStop). WalkAnswers objects c.args.heads.now r) (sym is)
    (Frontier-refused objects c.args.heads.now names c.loop-place.walk.items 65536 name stop (before.frontier tells) (sym c.get-2.ensures ∙ c.in-Some-get.is) refused)

pub returns-in_err-meet-clause-each : goal.returns-in_err-meet-clause-each
returns-in_err-meet-clause-each g c = λ tells.
    let before = c.loop-place.invariant in
    let few : g.S.Store.object_reads c.loop-place.disk ≤ g.S.Store.object_reads c.args.disk.now + 65536 = omega (arith, before.reads, c.loop-place.auto.place-end) in
    Frontier-read_next (objects_after (g.S.Store.history c.args.disk.now) c.args.folder.now) c.args.heads.now c.loop-place.queue.names.items c.loop-place.walk.items
    (g.S.Store.object_reads c.args.disk.now) (g.S.Store.object_reads c.loop-place.disk) (g.S.Store.object_reads c.meet.new.disk) 65536 c.in-Some-get.name
    before.queue.once (before.frontier tells) (sym c.get-2.ensures ∙ c.in-Some-get.is) few c.in_err-meet.ensures.reads

pub returns-clause-answers : goal.returns-clause-answers
returns-clause-answers g c = λ tells.
    let objects = objects_after (g.S.Store.history c.args.disk.now) c.args.folder.now in
    let names = c.loop-place.queue.names.items in
    let before = c.loop-place.invariant in
    let name = c.in-Some-get.name in
    let met = c.in_ok-meet.field-0 in
    let far : length c.loop-place.walk.items ≡ 65536 = omega (arith, before.count, c.loop-place.auto.place-end, c.loop-place-test.false) in
    let at : slice_get names (length c.loop-place.walk.items) ≡ Some name = ap (slice_get names) far ∙ sym c.get-2.ensures ∙ c.in-Some-get.is in
    let step : StepAnswers objects name (Ok met) = subst (λ (h : History). StepAnswers (objects_after h c.args.folder.now) name (Ok met)) (before.unwritten tells) (c.in_ok-meet.ensures.answers tells) in
    let held : commit_at objects name ≡ Some step.commit = ap (commit_at objects) (sym c.in_ok-meet.ensures.named) ∙ step.held in
    Frontier-too_many objects c.args.heads.now names c.loop-place.walk.items name step.commit before.queue.once (before.frontier tells) at far held

pub returns-clause-each : goal.returns-clause-each
returns-clause-each g c = λ tells.
    let before = c.loop-place.invariant in
    let few : g.S.Store.object_reads c.loop-place.disk ≤ g.S.Store.object_reads c.args.disk.now + 65536 = omega (arith, before.reads, c.loop-place.auto.place-end) in
    Frontier-read_next (objects_after (g.S.Store.history c.args.disk.now) c.args.folder.now) c.args.heads.now c.loop-place.queue.names.items c.loop-place.walk.items
    (g.S.Store.object_reads c.args.disk.now) (g.S.Store.object_reads c.loop-place.disk) (g.S.Store.object_reads c.meet.new.disk) 65536 c.in-Some-get.name
    before.queue.once (before.frontier tells) (sym c.get-2.ensures ∙ c.in-Some-get.is) few c.in_ok-meet.ensures.reads
