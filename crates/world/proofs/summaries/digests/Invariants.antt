use Rattle.std.proofs.Common.{◌≡◌, IsTrue}
use Rattle.gb_store.specs.MemStore.{has_no_fails}
use Rattle.world.specs.Told.{AreDigests}
use Rattle.world.proofs.summaries.digests.Given as goal

abbrev pub invariant-loop-folder : goal.invariant-loop-folder
invariant-loop-folder l = record {
  are : AreDigests l.fn.world.store.history l.folder l.digests;
  same : l.world ≡ record l.fn.world { store = l.world.store };
  unwritten : l.world.store.history ≡ l.fn.world.store.history;
  calm : IsTrue (has_no_fails l.world.store);
}
