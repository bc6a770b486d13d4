use Rattle.std.proofs.Common.{◌≡◌, ◌≤◌, ◌+◌, ◌++◌, ◌∷◌, [], IsTrue, List, length}
use Rattle.gb_store.specs.Faults.{KeepsFaults}
use Rattle.gb_text.specs.declared.id.Name.{Name}
use Rattle.object_store.specs.Held.{objects_after}
use Rattle.commit_walk.specs.Reaches.{IsReach, Reached, known}
use Rattle.commit_walk.specs.Queues.{IsQueue}
use Rattle.commit_walk.proofs.reach.Reach.follow.Given as goal

abbrev pub invariant-loop-place : goal.invariant-loop-place
invariant-loop-place g l = record {
  queue : IsQueue l.self.queue;
  reach : (tops : List Name) → IsReach tops l.fn.self (length (known l.fn.self)) → IsReach (tops ++ l.head ∷ []) l.self l.place;
  reached : IsTrue g.S.Store.tells → (tops : List Name) → Reached (objects_after (g.S.Store.history l.fn.disk) l.folder) tops l.fn.self (length (known l.fn.self))
      → Reached (objects_after (g.S.Store.history l.fn.disk) l.folder) (tops ++ l.head ∷ []) l.self l.place;
  unwritten : IsTrue g.S.Store.tells → g.S.Store.history l.disk ≡ g.S.Store.history l.fn.disk;
  reads : g.S.Store.object_reads l.disk + length (known l.fn.self) ≤ g.S.Store.object_reads l.fn.disk + l.place;
  within : l.place ≤ length (known l.self);
  caused : KeepsFaults g.S.Store.never_fails g.S.Store.faults ⊥ l.fn.disk l.disk;
}
