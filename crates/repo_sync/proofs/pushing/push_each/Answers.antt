use Rattle.std.proofs.Common.{rules, ◌≡◌, [], None, Err, get_or, sym, subst}
use Rattle.gb_store.proofs.FaultLemmas.{KeepsFaults_then}
use Rattle.repo_state.specs.declared.refs.EntityRef.{EntityRef}
use Rattle.repo_state.specs.declared.stop.ReadStop.TheVariants as stop
use Rattle.sync_steps.specs.Pushing.{PushStops, Pushes}
use Rattle.sync_steps.specs.Turns.{EachAnswers, line_of}
use Rattle.sync_steps.specs.declared.line.Exchange.TheVariants as verb
use Rattle.repo_sync.proofs.ListedLemmas.{next_pushed}
use Rattle.repo_sync.proofs.StepLemmas.{turn_then_ended}
use Rattle.repo_sync.proofs.TurnLemmas.{AddsLines-next, Ended-at, WentOn-next}
use Rattle.repo_sync.proofs.pushing.push_each.Goals as goal

none : EntityRef
none = record { id = record { bytes = [] }; head = None }

pub returns-in_err-outcome-clause-answers : goal.returns-in_err-outcome-clause-answers
unfolding none
returns-in_err-outcome-clause-answers g c = λ tells alike.
    let history = g.S.Store.history in
    let a = c.args in
    let step = Pushes a.pair.now.own a.pair.now.peer a.there.now.side a.held in
    let stops = PushStops a.pair.now.own a.pair.now.peer a.there.now.side a.held in
    let why = c.in_err-outcome.field-0.0 in
    let is : c.from_residual.result ≡ Err why = search rules in
    subst (EachAnswers verb.Push a.word step stops a.refs.now a.lines.now.items c.loop-entity.lines.items (history a.disk.now) (history c.push_or_hold.new.disk)) (sym is)
    (Ended-at verb.Push a.word step stops why a.refs.now c.loop-entity.entity-index none a.lines.now.items c.loop-entity.lines.items (history a.disk.now) (history c.loop-entity.disk) (history c.push_or_hold.new.disk)
    c.loop-entity-test.true (c.loop-entity.invariant.went tells alike) (c.in_err-outcome.ensures.answers tells
    (next_pushed a.pair.now.own a.pair.now.peer a.word a.there.now a.held a.refs.now c.loop-entity.entity-index none a.lines.now.items c.loop-entity.lines.items (history a.disk.now) (history c.loop-entity.disk) c.loop-entity-test.true alike (c.loop-entity.invariant.went tells alike))))

pub returns-in_err-push-clause-answers : goal.returns-in_err-push-clause-answers
unfolding none
returns-in_err-push-clause-answers g c = λ tells alike.
    let history = g.S.Store.history in
    let a = c.args in
    let own = a.pair.now.own in
    let peer = a.pair.now.peer in
    let step = Pushes own peer a.there.now.side a.held in
    let stops = PushStops own peer a.there.now.side a.held in
    let entity = get_or a.refs.now c.loop-entity.entity-index none in
    let is : c.from_residual-in_err-push.result ≡ Err stop.Memory = search rules in
    subst (EachAnswers verb.Push a.word step stops a.refs.now a.lines.now.items c.push.new.self.items (history a.disk.now) (history c.push_or_hold.new.disk)) (sym is)
    (Ended-at verb.Push a.word step stops stop.Memory a.refs.now c.loop-entity.entity-index none a.lines.now.items c.loop-entity.lines.items (history a.disk.now) (history c.loop-entity.disk) (history c.push_or_hold.new.disk)
    c.loop-entity-test.true (c.loop-entity.invariant.went tells alike)
    (turn_then_ended own peer a.there.now.side a.held entity c.in_ok-outcome.outcome (history c.loop-entity.disk) (history c.push_or_hold.new.disk) (c.in_ok-outcome.ensures.answers tells
    (next_pushed a.pair.now.own a.pair.now.peer a.word a.there.now a.held a.refs.now c.loop-entity.entity-index none a.lines.now.items c.loop-entity.lines.items (history a.disk.now) (history c.loop-entity.disk) c.loop-entity-test.true alike (c.loop-entity.invariant.went tells alike)))))

pub loop-entity-preserved : goal.loop-entity-preserved
unfolding none
loop-entity-preserved g c =
    let history = g.S.Store.history in
    let reads = g.S.Store.object_reads in
    let a = c.args in
    let was = c.loop-entity.invariant in
    let out = c.in_ok-outcome.outcome in
    let entity = get_or a.refs.now c.loop-entity.entity-index none in
    record {
      went = λ tells alike.
          WentOn-next verb.Push a.word (Pushes a.pair.now.own a.pair.now.peer a.there.now.side a.held) a.refs.now c.loop-entity.entity-index none out a.lines.now.items c.loop-entity.lines.items c.push.new.self.items
          (history a.disk.now) (history c.loop-entity.disk) (history c.push_or_hold.new.disk) c.loop-entity-test.true (was.went tells alike) (c.in_ok-outcome.ensures.answers tells
          (next_pushed a.pair.now.own a.pair.now.peer a.word a.there.now a.held a.refs.now c.loop-entity.entity-index none a.lines.now.items c.loop-entity.lines.items (history a.disk.now) (history c.loop-entity.disk) c.loop-entity-test.true alike (was.went tells alike))) c.in_ok-push.ensures.items;
      adds = AddsLines-next a.lines.now.items c.loop-entity.lines.items c.push.new.self.items (line_of verb.Push a.word (record { entity = entity; outcome = out }))
          (reads a.disk.now) (reads c.loop-entity.disk) (reads c.push_or_hold.new.disk) was.adds c.in_ok-outcome.ensures.unread c.in_ok-push.ensures.items;
      caused = KeepsFaults_then g.S.Store.never_fails g.S.Store.faults _ ⊥ a.disk.now c.loop-entity.disk c.push_or_hold.new.disk was.caused c.in_ok-outcome.ensures.caused (λ never. absurd never) (λ fails. absurd {A = ⊥} (cc));
    }
