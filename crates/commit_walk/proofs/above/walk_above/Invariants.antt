use Rattle.std.proofs.Common.{◌≡◌, ◌≤◌, ◌+◌, ◌∷◌, [], IsTrue, length}
use Rattle.gb_store.specs.Faults.{KeepsFaults}
use Rattle.object_store.specs.Held.{objects_after}
use Rattle.commit_walk.specs.Queues.{IsQueue}
use Rattle.commit_walk.proofs.AboveLemmas.{Follows}
use Rattle.commit_walk.proofs.FrontierLemmas.{Front, Frontier}
use Rattle.commit_walk.proofs.above.walk_above.Given as goal

abbrev pub invariant-loop-place : goal.invariant-loop-place
invariant-loop-place g l = record {
  queue : IsQueue l.queue;
  front : Front (l.head ∷ []) l.queue.names.items l.walk.items;
  frontier : IsTrue g.S.Store.tells → Frontier (objects_after (g.S.Store.history l.fn.disk) l.folder) (l.head ∷ []) l.queue.names.items l.walk.items;
  follows : IsTrue g.S.Store.tells → Follows (objects_after (g.S.Store.history l.fn.disk) l.folder) l.head l.known l.is_chain l.queue.names.items l.walk.items;
  count : length l.walk.items ≡ l.place;
  unwritten : IsTrue g.S.Store.tells → g.S.Store.history l.disk ≡ g.S.Store.history l.fn.disk;
  reads : g.S.Store.object_reads l.disk ≤ g.S.Store.object_reads l.fn.disk + l.place;
  within : l.place ≤ length l.queue.names.items;
  caused : KeepsFaults g.S.Store.never_fails g.S.Store.faults ⊥ l.fn.disk l.disk;
}
