use Rattle.std.proofs.Common.{◌≡◌, ◌+◌, rules}
use Rattle.world.proofs.PlayLemmas.{after_next, told_more}
use Rattle.world.proofs.plays.play_watched.Goals as goal

pub loop-event-preserved : goal.loop-event-preserved
loop-event-preserved g c =
    let was = c.loop-event.invariant in
    let after = after_next c.args.events.now c.args.folders c.loop-event.event-index c.in_ok-ended.ended c.loop-event.world c.count.new.world c.run_event.new.store
    c.loop-event-test.true was.after c.in_ok-ended.ensures.runs c.in_ok-ended.ensures.calm c.count.ensures in
    let count : c.saturating_add-played.result ≡ c.loop-event.event-index + 1 = search rules in
    record {
      after = after;
      played = count;
      told = λ tells. told_more (g.W.Watch.told c.args.watch.now) (g.W.Watch.told c.loop-event.watch) (g.W.Watch.told c.played.new.self) _ c.loop-event.event-index _ _
          (was.told tells) count after.all_events (c.played.ensures tells);
    }
