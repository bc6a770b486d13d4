use Rattle.std.proofs.Common.{rules, ◌≡◌, [], None, Err, get_or, refl, sym, subst}
use Rattle.gb_store.proofs.FaultLemmas.{KeepsFaults_then}
use Rattle.repo_state.specs.declared.refs.EntityRef.{EntityRef}
use Rattle.repo_state.specs.declared.stop.ReadStop.TheVariants as stop
use Rattle.sync_steps.specs.Fetching.{FetchStops, Fetches}
use Rattle.sync_steps.specs.Turns.{EachAnswers, Turn, line_of}
use Rattle.sync_steps.specs.declared.line.Exchange.TheVariants as verb
use Rattle.repo_sync.specs.Reading.{EachRead, FetchRead, ReadsFetch}
use Rattle.repo_sync.proofs.ListedLemmas.{next_fetched}
use Rattle.repo_sync.proofs.ReadingLemmas.{AllRead-next, SomeRead-at}
use Rattle.repo_sync.proofs.StepLemmas.{fetched_then_ended}
use Rattle.repo_sync.proofs.TurnLemmas.{AddsLines-next, Ended-at, WentOn-next}
use Rattle.repo_sync.proofs.fetching.fetch_each.Goals as goal

none : EntityRef
none = record { id = record { bytes = [] }; head = None }

pub returns-in_err-outcome-clause-answers : goal.returns-in_err-outcome-clause-answers
unfolding none
returns-in_err-outcome-clause-answers g c = λ tells alike.
    let history = g.S.Store.history in
    let a = c.args in
    let step = Fetches a.pair.now.own a.pair.now.peer a.seen.now.side in
    let stops = FetchStops a.pair.now.own a.pair.now.peer a.seen.now.side in
    let why = c.in_err-outcome.field-0.0 in
    let is : c.from_residual.result ≡ Err why = search rules in
    subst (EachAnswers verb.Fetch a.word step stops a.refs.now a.lines.now.items c.loop-entity.lines.items (history a.disk.now) (history c.fetch_one.new.disk)) (sym is)
    (Ended-at verb.Fetch a.word step stops why a.refs.now c.loop-entity.entity-index none a.lines.now.items c.loop-entity.lines.items (history a.disk.now) (history c.loop-entity.disk) (history c.fetch_one.new.disk)
    c.loop-entity-test.true (c.loop-entity.invariant.went tells alike) (c.in_err-outcome.ensures.answers tells
    (next_fetched a.pair.now.own a.pair.now.peer a.word a.seen.now a.refs.now c.loop-entity.entity-index none a.lines.now.items c.loop-entity.lines.items (history a.disk.now) (history c.loop-entity.disk) c.loop-entity-test.true alike (c.loop-entity.invariant.went tells alike))))

pub returns-in_err-push-clause-answers : goal.returns-in_err-push-clause-answers
unfolding none
returns-in_err-push-clause-answers g c = λ tells alike.
    let history = g.S.Store.history in
    let a = c.args in
    let own = a.pair.now.own in
    let peer = a.pair.now.peer in
    let step = Fetches own peer a.seen.now.side in
    let stops = FetchStops own peer a.seen.now.side in
    let entity = get_or a.refs.now c.loop-entity.entity-index none in
    let is : c.from_residual-in_err-push.result ≡ Err stop.Memory = search rules in
    subst (EachAnswers verb.Fetch a.word step stops a.refs.now a.lines.now.items c.push.new.self.items (history a.disk.now) (history c.fetch_one.new.disk)) (sym is)
    (Ended-at verb.Fetch a.word step stops stop.Memory a.refs.now c.loop-entity.entity-index none a.lines.now.items c.loop-entity.lines.items (history a.disk.now) (history c.loop-entity.disk) (history c.fetch_one.new.disk)
    c.loop-entity-test.true (c.loop-entity.invariant.went tells alike)
    (fetched_then_ended own peer a.seen.now.side entity.id entity.head c.in_ok-outcome.outcome (history c.loop-entity.disk) (history c.fetch_one.new.disk) (c.in_ok-outcome.ensures.answers tells
    (next_fetched a.pair.now.own a.pair.now.peer a.word a.seen.now a.refs.now c.loop-entity.entity-index none a.lines.now.items c.loop-entity.lines.items (history a.disk.now) (history c.loop-entity.disk) c.loop-entity-test.true alike (c.loop-entity.invariant.went tells alike)))))

pub loop-entity-preserved : goal.loop-entity-preserved
unfolding none
loop-entity-preserved g c =
    let history = g.S.Store.history in
    let reads = g.S.Store.object_reads in
    let a = c.args in
    let was = c.loop-entity.invariant in
    let out = c.in_ok-outcome.outcome in
    let entity = get_or a.refs.now c.loop-entity.entity-index none in
    record {
      went = λ tells alike.
          WentOn-next verb.Fetch a.word (Fetches a.pair.now.own a.pair.now.peer a.seen.now.side) a.refs.now c.loop-entity.entity-index none out a.lines.now.items c.loop-entity.lines.items c.push.new.self.items
          (history a.disk.now) (history c.loop-entity.disk) (history c.fetch_one.new.disk) c.loop-entity-test.true (was.went tells alike) (c.in_ok-outcome.ensures.answers tells
          (next_fetched a.pair.now.own a.pair.now.peer a.word a.seen.now a.refs.now c.loop-entity.entity-index none a.lines.now.items c.loop-entity.lines.items (history a.disk.now) (history c.loop-entity.disk) c.loop-entity-test.true alike (was.went tells alike))) c.in_ok-push.ensures.items;
      adds = AddsLines-next a.lines.now.items c.loop-entity.lines.items c.push.new.self.items (line_of verb.Fetch a.word (record { entity = entity; outcome = out }))
          (reads a.disk.now) (reads c.loop-entity.disk) (reads c.fetch_one.new.disk) was.adds c.in_ok-outcome.ensures.unread c.in_ok-push.ensures.items;
      read = λ tells alike.
          AllRead-next (λ (turn : Turn). turn.entity) (FetchRead a.pair.now.own a.pair.now.peer a.seen.now.side) a.refs.now c.loop-entity.entity-index none (record { entity = entity; outcome = out }) (history a.disk.now) (history c.loop-entity.disk) (history c.fetch_one.new.disk)
          (reads a.disk.now) (reads c.loop-entity.disk) (reads c.fetch_one.new.disk) c.loop-entity-test.true refl (was.read tells alike) (record {
            fetched = c.in_ok-outcome.ensures.answers tells (next_fetched a.pair.now.own a.pair.now.peer a.word a.seen.now a.refs.now c.loop-entity.entity-index none a.lines.now.items c.loop-entity.lines.items (history a.disk.now) (history c.loop-entity.disk) c.loop-entity-test.true alike (was.went tells alike));
            reads = c.fetch_one.ensures.reads tells;
          });
      caused = KeepsFaults_then g.S.Store.never_fails g.S.Store.faults _ ⊥ a.disk.now c.loop-entity.disk c.fetch_one.new.disk was.caused c.in_ok-outcome.ensures.caused (λ never. absurd never) (λ fails. absurd {A = ⊥} (cc));
    }

pub returns-in_err-outcome-clause-reads : goal.returns-in_err-outcome-clause-reads
unfolding none
returns-in_err-outcome-clause-reads g c = λ tells alike.
    let history = g.S.Store.history in
    let reads = g.S.Store.object_reads in
    let a = c.args in
    let own = a.pair.now.own in
    let peer = a.pair.now.peer in
    let why = c.in_err-outcome.field-0.0 in
    let is : c.from_residual.result ≡ Err why = search rules in
    let at = SomeRead-at (λ (turn : Turn). turn.entity) (FetchRead own peer a.seen.now.side) (ReadsFetch own peer) a.refs.now c.loop-entity.entity-index none (history a.disk.now) (history c.loop-entity.disk)
    (reads a.disk.now) (reads c.loop-entity.disk) (reads c.fetch_one.new.disk) c.loop-entity-test.true (c.loop-entity.invariant.read tells alike) (c.fetch_one.ensures.reads tells) in
    subst (EachRead (λ (turn : Turn). turn.entity) (FetchRead own peer a.seen.now.side) (ReadsFetch own peer) a.refs.now (history a.disk.now) (history c.fetch_one.new.disk) (reads a.disk.now) (reads c.fetch_one.new.disk)) (sym is) at

pub returns-in_err-push-clause-reads : goal.returns-in_err-push-clause-reads
unfolding none
returns-in_err-push-clause-reads g c = λ tells alike.
    let history = g.S.Store.history in
    let reads = g.S.Store.object_reads in
    let a = c.args in
    let own = a.pair.now.own in
    let peer = a.pair.now.peer in
    let is : c.from_residual-in_err-push.result ≡ Err stop.Memory = search rules in
    let at = SomeRead-at (λ (turn : Turn). turn.entity) (FetchRead own peer a.seen.now.side) (ReadsFetch own peer) a.refs.now c.loop-entity.entity-index none (history a.disk.now) (history c.loop-entity.disk)
    (reads a.disk.now) (reads c.loop-entity.disk) (reads c.fetch_one.new.disk) c.loop-entity-test.true (c.loop-entity.invariant.read tells alike) (c.fetch_one.ensures.reads tells) in
    subst (EachRead (λ (turn : Turn). turn.entity) (FetchRead own peer a.seen.now.side) (ReadsFetch own peer) a.refs.now (history a.disk.now) (history c.fetch_one.new.disk) (reads a.disk.now) (reads c.fetch_one.new.disk)) (sym is) at
