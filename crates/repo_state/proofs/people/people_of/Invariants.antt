use Rattle.std.proofs.Common.{◌≡◌, ◌≤◌, ◌+◌, ◌*◌, IsTrue, take}
use Rattle.gb_store.specs.Faults.{KeepsFaults}
use Rattle.gb_store.specs.Files.{files_of}
use Rattle.object_store.specs.Held.{objects_in}
use Rattle.repo_state.specs.Answers.{ArePersons}
use Rattle.repo_state.proofs.people.people_of.Given as goal

abbrev pub invariant-loop-entry : goal.invariant-loop-entry
invariant-loop-entry g l = record {
  are : IsTrue g.S.Store.tells → ArePersons (objects_in (files_of (g.S.Store.history l.fn.disk)) l.folder) (take l.entry-index l.entries) l.people.items;
  unwritten : IsTrue g.S.Store.tells → g.S.Store.history l.disk ≡ g.S.Store.history l.fn.disk;
  reads : g.S.Store.object_reads l.disk ≤ g.S.Store.object_reads l.fn.disk + 3 * l.entry-index;
  caused : KeepsFaults g.S.Store.never_fails g.S.Store.faults ⊥ l.fn.disk l.disk;
}
