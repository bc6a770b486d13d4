use Rattle.std.proofs.Common.{IsTrue}
use Rattle.gb_store.specs.Faults.{KeepsFaults}
use Rattle.object_store.specs.Held.{objects_after}
use Rattle.remote_copy.specs.Copies.{AreRead}
use Rattle.remote_copy.specs.Work.{weight_of}
use Rattle.remote_copy.proofs.LoopLemmas.{OnTheWay}
use Rattle.remote_copy.proofs.closure.copy.Given as goal

abbrev pub invariant-loop-alloc : goal.invariant-loop-alloc
invariant-loop-alloc g l = record {
  way : IsTrue g.S.Store.tells → OnTheWay l.closed l.source l.target l.head (g.S.Store.history l.fn.disk) (g.S.Store.history l.disk) l.work;
  read : IsTrue g.S.Store.tells → AreRead l.closed (objects_after (g.S.Store.history l.fn.disk) l.source) (objects_after (g.S.Store.history l.fn.disk) l.target) l.head l.work.index (g.S.Store.object_reads l.fn.disk) (g.S.Store.object_reads l.disk);
  caused : KeepsFaults g.S.Store.never_fails g.S.Store.faults ⊥ l.fn.disk l.disk;
}

abbrev pub decreases-loop-alloc : goal.decreases-loop-alloc
decreases-loop-alloc g l = weight_of l.work
