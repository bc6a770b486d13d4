use Rattle.std.proofs.Common.{[], ◌∷◌, ◌++◌, ap}
use Rattle.world.specs.declared.world.World.{World}
use Rattle.world.proofs.PlayLemmas.{played_more}
use Rattle.world.proofs.exchanges.exchange.Goals as goal

pub loop-event-preserved : goal.loop-event-preserved
loop-event-preserved c =
    let was = c.loop-event.invariant in
    let ran = c.in_ok-run_event.ensures in
    let store = c.run_event.new.store in
    record {
      plays = (
        was.plays.0 ++ c.in_ok-run_event.field-0 ∷ [],
        played_more c.as_slice-event-items.result.now c.loop-event.event-index was.plays.0 c.in_ok-run_event.field-0 c.args.world.now.store.history c.loop-event.world.store.history store.history
            c.loop-event-test.true was.plays.1 ran.runs,
      );
      same = ap (λ (w : World). record w { store = store }) was.same;
      calm = ran.calm;
    }
