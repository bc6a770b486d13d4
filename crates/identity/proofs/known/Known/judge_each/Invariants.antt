use Rattle.std.proofs.Common.{◌≡◌, ◌≤◌, ◌+◌, ◌*◌, IsTrue, take}
use Rattle.gb_store.specs.Faults.{KeepsFaults}
use Rattle.object_store.specs.Held.{objects_after}
use Rattle.identity.specs.Knowing.{AreKnown, EachHas, LearnsEach}
use Rattle.identity.proofs.known.Known.judge_each.Given as goal

abbrev pub invariant-loop-link : goal.invariant-loop-link
invariant-loop-link g l = record {
  each : IsTrue g.S.Store.tells → AreKnown (objects_after (g.S.Store.history l.fn.disk) l.folder) l.fn.self
      → EachHas (objects_after (g.S.Store.history l.fn.disk) l.folder) (take l.link-index l.links);
  known : IsTrue g.S.Store.tells → AreKnown (objects_after (g.S.Store.history l.fn.disk) l.folder) l.fn.self
      → AreKnown (objects_after (g.S.Store.history l.fn.disk) l.folder) l.self;
  unwritten : IsTrue g.S.Store.tells → g.S.Store.history l.disk ≡ g.S.Store.history l.fn.disk;
  reads : g.S.Store.object_reads l.disk ≤ g.S.Store.object_reads l.fn.disk + 2 * l.link-index;
  once : IsTrue g.S.Store.tells → LearnsEach (objects_after (g.S.Store.history l.fn.disk) l.folder) l.links l.fn.self l.self
      (g.S.Store.object_reads l.fn.disk) (g.S.Store.object_reads l.disk);
  caused : KeepsFaults g.S.Store.never_fails g.S.Store.faults ⊥ l.fn.disk l.disk;
}
