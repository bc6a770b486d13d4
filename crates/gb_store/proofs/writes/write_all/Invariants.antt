use Rattle.std.proofs.Common.{◌≡◌, ◌++◌, IsTrue, take, reverse}
use Rattle.gb_store.specs.Faults.{KeepsFaults}
use Rattle.gb_store.proofs.writes.write_all.Given as goal

abbrev pub invariant-loop-change : goal.invariant-loop-change
invariant-loop-change g l = record {
  made : IsTrue g.S.Store.tells → g.S.Store.history l.disk ≡ reverse (take l.change-index l.changes) ++ g.S.Store.history l.fn.disk;
  reads : g.S.Store.object_reads l.disk ≡ g.S.Store.object_reads l.fn.disk;
  caused : KeepsFaults g.S.Store.never_fails g.S.Store.faults ⊥ l.fn.disk l.disk;
}
