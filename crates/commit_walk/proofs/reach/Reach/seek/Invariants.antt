use Rattle.std.proofs.Common.{◌≡◌, ◌≤◌, ◌+◌, ◌∷◌, [], IsTrue, length}
use Rattle.gb_store.specs.Faults.{KeepsFaults}
use Rattle.object_store.specs.Held.{objects_after}
use Rattle.commit_walk.specs.Queues.{IsQueue}
use Rattle.commit_walk.specs.Reaches.{IsReach, Reached, Seeks, known}
use Rattle.commit_walk.proofs.reach.Reach.seek.Given as goal

abbrev pub invariant-loop-place : goal.invariant-loop-place
invariant-loop-place g l = record {
  queue : IsQueue l.reach.queue;
  reach : IsReach (l.head ∷ []) l.reach l.place;
  reached : IsTrue g.S.Store.tells → Reached (objects_after (g.S.Store.history l.fn.disk) l.folder) (l.head ∷ []) l.reach l.place;
  seeks : IsTrue g.S.Store.tells → Seeks (objects_after (g.S.Store.history l.fn.disk) l.folder) l.head l.sought l.reach l.place;
  unwritten : IsTrue g.S.Store.tells → g.S.Store.history l.disk ≡ g.S.Store.history l.fn.disk;
  reads : g.S.Store.object_reads l.disk ≤ g.S.Store.object_reads l.fn.disk + l.place;
  within : l.place ≤ length (known l.reach);
  caused : KeepsFaults g.S.Store.never_fails g.S.Store.faults ⊥ l.fn.disk l.disk;
}
