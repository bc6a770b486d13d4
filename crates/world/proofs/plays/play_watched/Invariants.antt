use Rattle.std.proofs.Common.{◌≡◌, ◌++◌, IsTrue, length}
use Rattle.world.specs.Worlds.{told_of}
use Rattle.world.proofs.PlayLemmas.{IsAfter}
use Rattle.world.proofs.plays.play_watched.Given as goal

abbrev pub invariant-loop-event : goal.invariant-loop-event
invariant-loop-event g l = record {
  after : IsAfter l.events l.folders l.event-index l.world;
  played : l.played ≡ l.event-index;
  told : IsTrue g.W.Watch.tells → g.W.Watch.told l.watch ≡ g.W.Watch.told l.fn.watch ++ told_of (length l.events) l.event-index;
}
