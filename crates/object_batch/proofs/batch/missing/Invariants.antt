use Rattle.std.proofs.Common.{◌≡◌, ◌≤◌, ◌+◌, ◌<◌, ◌++◌, ℕ, List, reverse, take, IsTrue, slice_index_or}
use Rattle.gb_store.specs.Faults.{KeepsFaults}
use Rattle.object_batch.specs.Batches.{ArePut, IsFree}
use Rattle.object_batch.proofs.batch.missing.Given as goal

abbrev pub invariant-loop-place : goal.invariant-loop-place
invariant-loop-place g l = record {
  put : IsTrue g.S.Store.tells → ArePut l.folder (take l.place l.texts) (g.S.Store.history l.fn.disk) (reverse l.changes.items ++ g.S.Store.history l.fn.disk);
  free : IsTrue g.S.Store.tells → (k : ℕ) (d : List ℕ) → k < l.place → IsFree l.folder (g.S.Store.history l.fn.disk) (slice_index_or l.texts k d);
  unwritten : IsTrue g.S.Store.tells → g.S.Store.history l.disk ≡ g.S.Store.history l.fn.disk;
  reads : g.S.Store.object_reads l.disk ≤ g.S.Store.object_reads l.fn.disk + l.place;
  caused : KeepsFaults g.S.Store.never_fails g.S.Store.faults ⊥ l.fn.disk l.disk;
}
