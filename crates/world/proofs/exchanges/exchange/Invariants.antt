use Rattle.std.proofs.Common.{◌≡◌, IsTrue, List, take}
use Rattle.gb_store.specs.MemStore.{has_no_fails}
use Rattle.world.specs.Plays.{ArePlayed}
use Rattle.world.specs.declared.world.Ended.{Ended}
use Rattle.world.proofs.exchanges.exchange.Given as goal

abbrev pub invariant-loop-event : goal.invariant-loop-event
invariant-loop-event l = record {
  plays : (ends : List Ended) × ArePlayed (take l.event-index l.event-items) ends l.fn.world.store.history l.world.store.history;
  same : l.world ≡ record l.fn.world { store = l.world.store };
  calm : IsTrue (has_no_fails l.world.store);
}
