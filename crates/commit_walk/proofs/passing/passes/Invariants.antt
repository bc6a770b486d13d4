use Rattle.std.proofs.Common.{◌≡◌, ◌≤◌, ◌+◌, IsTrue}
use Rattle.gb_store.specs.Faults.{KeepsFaults}
use Rattle.object_store.specs.Held.{objects_after}
use Rattle.commit_walk.specs.Passing.{HasCome}
use Rattle.commit_walk.proofs.passing.passes.Given as goal

abbrev pub invariant-loop : goal.invariant-loop
invariant-loop g l = record {
  come : IsTrue g.S.Store.tells → HasCome (objects_after (g.S.Store.history l.fn.disk) l.folder) l.head l.sought l.name l.counter;
  unwritten : IsTrue g.S.Store.tells → g.S.Store.history l.disk ≡ g.S.Store.history l.fn.disk;
  reads : g.S.Store.object_reads l.disk ≤ g.S.Store.object_reads l.fn.disk + l.counter;
  caused : KeepsFaults g.S.Store.never_fails g.S.Store.faults ⊥ l.fn.disk l.disk;
}
