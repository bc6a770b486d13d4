use Rattle.std.proofs.Common.{◌≡◌, ◌≤◌, ◌+◌, IsTrue, length, reverse}
use Rattle.gb_store.specs.Faults.{KeepsFaults}
use Rattle.gb_store.specs.Files.{files_of}
use Rattle.object_store.specs.Held.{objects_in}
use Rattle.commit_walk.specs.Chain.{Chain}
use Rattle.commit_walk.proofs.chain.walk_chain.Given as goal

abbrev pub invariant-loop : goal.invariant-loop
invariant-loop g l = record {
  chain : IsTrue g.S.Store.tells → Chain (objects_in (files_of (g.S.Store.history l.fn.disk)) l.folder) l.head (reverse l.above.items) l.name;
  count : length l.above.items ≡ l.counter;
  unwritten : IsTrue g.S.Store.tells → g.S.Store.history l.disk ≡ g.S.Store.history l.fn.disk;
  reads : g.S.Store.object_reads l.disk ≤ g.S.Store.object_reads l.fn.disk + l.counter;
  caused : KeepsFaults g.S.Store.never_fails g.S.Store.faults ⊥ l.fn.disk l.disk;
}
